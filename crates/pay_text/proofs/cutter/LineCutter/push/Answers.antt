use Rattle.std.proofs.Common.{◌≡◌, ℕ, ◌<◌, ◌≤◌, List, [], ◌∷◌, ◌++◌, length, sym, ◌∙◌, ap, subst, arith, true, false, Some, None, Bool}
use Rattle.std.specs.Prelude.{if◌then◌else◌}
use Rattle.pay_text.specs.Cutting.{Begun, line_with_byte}
use Rattle.pay_text.proofs.Following.{grown_fits, grown_full, grown_over}
use Rattle.pay_text.proofs.cutter.LineCutter.push.Goals as goal

abbrev held : Bool → ℕ → List ℕ → Begun
held over bound line = record { bound = bound; line = if over then None else Some line }

-- the same line with a byte more
abbrev more : Begun → ℕ → Begun
more begun b = record begun { line = line_with_byte begun.bound begun.line b }

over_stays : (over : Bool) (bound : ℕ) (line : List ℕ) (b : ℕ) → over ≡ true → held over bound line ≡ more (held over bound line) b
over_stays true bound line b is = ap (λ l. let s : Begun = record { bound = bound; line = l } in s) (sym (grown_over bound b))
over_stays false bound line b is = absurd cc

pushed : (over : Bool) (bound : ℕ) (line longer : List ℕ) (b : ℕ) → over ≡ false → length line < bound → longer ≡ line ++ b ∷ [] → held over bound longer ≡ more (held over bound line) b
pushed true bound line longer b is fits parts = absurd cc
pushed false bound line longer b is fits parts = ap (λ l. let s : Begun = record { bound = bound; line = l } in s) (ap (λ l. Some l) parts ∙ sym (grown_fits bound line b fits))

grew_over : (over : Bool) (bound : ℕ) (line : List ℕ) (b : ℕ) → over ≡ false → bound ≤ length line → held true bound line ≡ more (held over bound line) b
grew_over true bound line b is full = absurd cc
grew_over false bound line b is full = ap (λ l. let s : Begun = record { bound = bound; line = l } in s) (sym (grown_full bound line b full))

pub returns-then-self : goal.returns-then-self
returns-then-self c =
    subst (λ (s : Begun). s ≡ more s c.args.byte) c.self.view_is (over_stays c.self.inside.over c.self.inside.bound c.self.inside.line.items c.args.byte c.if-self.true)

pub returns-then-len-self : goal.returns-then-len-self
returns-then-len-self c =
    subst (λ (s : Begun). held c.self.inside.over c.self.inside.bound c.push_reserved.new.self.items ≡ more s c.args.byte) c.self.view_is
    (pushed c.self.inside.over c.self.inside.bound c.self.inside.line.items c.push_reserved.new.self.items c.args.byte c.if-self.false (omega (arith, c.len.ensures)) c.push_reserved.ensures.items)

pub returns-else-len-self : goal.returns-else-len-self
returns-else-len-self c =
    subst (λ (s : Begun). held true c.self.inside.bound c.self.inside.line.items ≡ more s c.args.byte) c.self.view_is
    (grew_over c.self.inside.over c.self.inside.bound c.self.inside.line.items c.args.byte c.if-self.false (omega (arith, c.len.ensures)))
