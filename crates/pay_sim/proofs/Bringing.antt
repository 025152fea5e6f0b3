-- Frames that are brought, one after the other.
use Rattle.std.proofs.Common.{◌≡◌, ℕ, suc, ◌+◌, ◌-◌, ◌<◌, ◌≤◌, List, [], ◌∷◌, ◌++◌, length, Option, Some, None, Ok, Err, refl, sym, ap, ◌∙◌, subst, arith, append_assoc, codes, decimal}
use Rattle.std.specs.List.{range_with_len}
use Rattle.pay_world.specs.declared.event.WorldEvent.{WorldEvent}
use Rattle.pay_world.specs.declared.event.WorldEvent.TheVariants.{Bring}
use Rattle.pay_world.specs.declared.event.WorldReply.{WorldReply}
use Rattle.pay_sim.specs.declared.group.ScriptGroup.{ScriptGroup}
use Rattle.pay_sim.specs.declared.run.Halt.{Halt}
use Rattle.pay_sim.specs.declared.run.Halt.TheVariants as halt
use Rattle.pay_sim.specs.declared.run.RunStop.{RunStop}
use Rattle.pay_sim.specs.Made.{next_untaken}
use Rattle.pay_sim.specs.All.{Draws, Nothing, Stopped, Further, InTurn, MakesPass, BringsAll, Enough, Halted, Again}
use Rattle.pay_sim.specs.Script.{IsConverged, TellsAll, with_feed}
use Rattle.pay_sim.specs.Playing.{GameFields, IsAfter, HasBrought, IsDone, IsMade, Leads}

-- ---- from one list

pub draw_done : (c : ScriptGroup) (from to : ℕ) (es : List WorldEvent) (now : GameFields) → (l : Leads c now (Draws c from to) (Draws c from to es))
    → next_untaken c l.0 from to ≡ None → (last : List WorldEvent) × Draws c from to es last None × IsAfter c last now
draw_done c from to es now l none = (l.0, l.2 l.0 None (Nothing none), l.1)

pub draw_more : (c : ScriptGroup) (from to : ℕ) (es : List WorldEvent) (now new : GameFields) (frame : List ℕ) (reply : WorldReply) → (l : Leads c now (Draws c from to) (Draws c from to es))
    → next_untaken c l.0 from to ≡ Some frame → IsMade c l.0 (Bring to frame) new (Ok reply) → Leads c new (Draws c from to) (Draws c from to es)
draw_more c from to es now new frame reply l at made = (l.0 ++ Bring to frame ∷ [], made.1, λ last stop rest. l.2 last stop (Further frame reply at made.0 rest))

pub draw_broken : (c : ScriptGroup) (from to : ℕ) (es : List WorldEvent) (now new : GameFields) (frame : List ℕ) (h : Halt) → (l : Leads c now (Draws c from to) (Draws c from to es))
    → next_untaken c l.0 from to ≡ Some frame → IsMade c l.0 (Bring to frame) new (Err h) → HasBrought (Draws c from to es) c new (Err h)
draw_broken c from to es now new frame halt.Memory l at made = tt
draw_broken c from to es now new frame (halt.Stop stop) l at made = (l.0, l.2 l.0 (Some stop) (Stopped frame stop at made))

-- ---- one after the other

range_next : (a n : ℕ) → a < n → range_with_len a (n - a) ≡ a ∷ range_with_len (a + 1) (n - (a + 1))
range_next a n less = let more : n - a ≡ suc (n - (a + 1)) = omega arith in ap (range_with_len a) more

range_none : (a n : ℕ) → n ≤ a → range_with_len a (n - a) ≡ []
range_none a n le = let none : n - a ≡ 0 = omega arith in ap (range_with_len a) none

module _ (c : ScriptGroup) (does : ℕ → List WorldEvent → List WorldEvent → Option RunStop → Type 0) (n : ℕ) (whole : List WorldEvent → Option RunStop → Type 0) where
  pub turn_more : (a : ℕ) (now new : GameFields) → a < n → Leads c now (InTurn does (range_with_len a (n - a))) whole
      → ((es : List WorldEvent) → IsAfter c es now → HasBrought (does a es) c new (Ok tt)) → Leads c new (InTurn does (range_with_len (a + 1) (n - (a + 1)))) whole
  turn_more a now new less l brought =
      let one = brought l.0 l.1 in
      (one.0, one.2, λ last stop rest. l.2 last stop (subst (λ (is : List ℕ). InTurn does is l.0 last stop) (sym (range_next a n less)) (one.0, None, one.1, rest)))

  pub turn_broken : (a : ℕ) (now new : GameFields) (h : Halt) → a < n → Leads c now (InTurn does (range_with_len a (n - a))) whole
      → ((es : List WorldEvent) → IsAfter c es now → HasBrought (does a es) c new (Err h)) → HasBrought whole c new (Err h)
  turn_broken a now new halt.Memory less l brought = tt
  turn_broken a now new (halt.Stop stop) less l brought =
      let one = brought l.0 l.1 in
      (one.0, l.2 one.0 (Some stop) (subst (λ (is : List ℕ). InTurn does is l.0 one.0 (Some stop)) (sym (range_next a n less)) (one.0, Some stop, one.1, (refl, refl))))

  pub turn_done : (a : ℕ) (now : GameFields) → n ≤ a → Leads c now (InTurn does (range_with_len a (n - a))) whole → HasBrought whole c now (Ok tt)
  turn_done a now le l = (l.0, l.2 l.0 None (subst (λ (is : List ℕ). InTurn does is l.0 l.0 None) (sym (range_none a n le)) (refl, refl)), l.1)

-- ---- again and again

pub passes_done : (c : ScriptGroup) (es : List WorldEvent) (now new : GameFields) → Leads c now (BringsAll c) (BringsAll c es)
    → ((mid : List WorldEvent) → IsAfter c mid now → HasBrought (MakesPass c mid) c new (Ok tt)) → new.made ≡ now.made → HasBrought (BringsAll c es) c new (Ok tt)
passes_done c es now new l brought same =
    let one = brought l.0 l.1 in
    let was = l.1.made in
    let is = one.2.made in
    (one.0, l.2 one.0 None (Enough one.1 (sym is ∙ same ∙ was)), one.2)

pub passes_more : (c : ScriptGroup) (es : List WorldEvent) (now new : GameFields) → Leads c now (BringsAll c) (BringsAll c es)
    → ((mid : List WorldEvent) → IsAfter c mid now → HasBrought (MakesPass c mid) c new (Ok tt)) → now.made < new.made → Leads c new (BringsAll c) (BringsAll c es)
passes_more c es now new l brought more =
    let one = brought l.0 l.1 in
    let was = l.1.made in
    let is = one.2.made in
    (one.0, one.2, λ last stop rest. l.2 last stop (Again one.1 (omega arith) rest))

pub passes_broken : (c : ScriptGroup) (es : List WorldEvent) (now new : GameFields) (h : Halt) → Leads c now (BringsAll c) (BringsAll c es)
    → ((mid : List WorldEvent) → IsAfter c mid now → HasBrought (MakesPass c mid) c new (Err h)) → HasBrought (BringsAll c es) c new (Err h)
passes_broken c es now new halt.Memory l brought = tt
passes_broken c es now new (halt.Stop stop) l brought =
    let one = brought l.0 l.1 in
    (one.0, l.2 one.0 (Some stop) (Halted stop one.1))

-- ---- what is printed of them

pub told_all : (c : ScriptGroup) (es last : List WorldEvent) (before one two three after : List ℕ) (now : GameFields) (n : ℕ)
    → n ≡ length last - length es → BringsAll c es last None → IsAfter c last now
    → one ≡ before ++ codes "brought " → two ≡ one ++ decimal n → three ≡ two ++ codes "\n"
    → ((words : List ℕ) × IsConverged c last words × (after ≡ three ++ words)) → IsDone (TellsAll c es) c before after now (Ok tt)
told_all c es last before one two three after now n count all behind first second third (words, converged, fourth) = (
  codes "brought " ++ with_feed (decimal (length last - length es)) ++ words,
  last,
  (all, (words, converged, refl)),
  fourth
      ∙ ap (λ (l : List ℕ). l ++ words) (third ∙ ap (λ (l : List ℕ). l ++ codes "\n") (second ∙ ap (λ (l : List ℕ). l ++ decimal n) first))
      ∙ ap (λ (k : ℕ). (((before ++ codes "brought ") ++ decimal k) ++ codes "\n") ++ words) count
      ∙ ap (λ (l : List ℕ). l ++ words) (append_assoc (before ++ codes "brought ") (decimal (length last - length es)) (codes "\n"))
      ∙ append_assoc (before ++ codes "brought ") (with_feed (decimal (length last - length es))) words
      ∙ append_assoc before (codes "brought ") (with_feed (decimal (length last - length es)) ++ words),
  behind,
)

pub told_broken : (c : ScriptGroup) (es : List WorldEvent) (before after : List ℕ) (new : GameFields) (h : Halt)
    → HasBrought (BringsAll c es) c new (Err h) → IsDone (TellsAll c es) c before after new (Err h)
told_broken c es before after new halt.Memory brought = tt
told_broken c es before after new (halt.Stop stop) brought = brought
