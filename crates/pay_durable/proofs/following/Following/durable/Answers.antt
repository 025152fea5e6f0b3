use Rattle.std.proofs.Common.{◌≡◌, Option, None, Some, false, ℕ, List, [], ◌∷◌, length, refl, sym, ◌∙◌, arith}
use Rattle.std.specs.Option.{is_some}
use Rattle.std.proofs.lemmas.Bool.Decides.{nat_tests}
use Rattle.pay_durable.proofs.Followed.{are_durable}
use Rattle.pay_durable.proofs.following.Following.durable.Goals as goal

none_of : {A : Type 0} (o : Option A) → is_some o ≡ false → o ≡ None
none_of None missing = refl
none_of (Some x) missing = absurd cc

empty_of : (l : List ℕ) → length l ≡ 0 → l ≡ []
empty_of [] none = refl
empty_of (x ∷ l) none = absurd (omega (arith, none))

pub returns-then-is_none-clause-durable : goal.returns-then-is_none-clause-durable
returns-then-is_none-clause-durable g c =
    let f = c.self.inside in
    let len : length f.pending.items ≡ 0 = grind (arith, nat_tests, c.is_empty.ensures, c.if-is_empty.true) in
    are_durable g.D.Device.is_known g.D.Device.seen g.D.Device.may_leave f.log f.count f.count f.pending.items
    (sym c.failure.ensures ∙ none_of c.failure.result c.if-is_none.ensures) (empty_of f.pending.items len) refl c.self.invariant.1
