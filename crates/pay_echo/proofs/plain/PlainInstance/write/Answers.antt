use Rattle.std.proofs.Common.{◌≡◌, ℕ, List, Some, ◌++◌, slice_get, ap, sym, ◌∙◌, subst, arith, rules}
use Rattle.std.proofs.lemmas.Grind.{common_steps}
use Rattle.pay_echo.specs.Broadcast.{IsForeign, value_of}
use Rattle.pay_echo.specs.Meaning.{Meaning}
use Rattle.pay_echo.specs.Plain.{AreDistinct}
use Rattle.pay_echo.specs.Votes.{vote_of_ref}
use Rattle.pay_echo.proofs.PlainLemmas.{counted-ArePlaces, counted-meaning}
use Rattle.pay_echo.proofs.plain.PlainInstance.write.Goals as goal

pub invariant_of-self-2 : goal.invariant_of-self-2
invariant_of-self-2 c =
    let grown = c.in_ok-place.ensures.grown in
    let is : slice_get (c.self.inside.values.items ++ grown.0) c.in_ok-place.place ≡ Some (value_of (vote_of_ref c.args.vote)) =
    ap (λ (values : List (List ℕ)). slice_get values c.in_ok-place.place) (sym grown.1) ∙ c.in_ok-place.ensures.place ∙ ap (λ (v : List ℕ). Some v) c.value.ensures.value in
    let distinct = subst AreDistinct grown.1 c.in_ok-place.ensures.distinct in
    rw (c.or-self-inside.ensures, c.then_some.ensures, c.put_if.ensures, c.put.ensures.readys, c.put.ensures.echoes, grown.1)
    (counted-ArePlaces c.self.inside.group c.self.inside.values.items grown.0 c.self.inside.echoes.items c.self.inside.readys.items c.self.inside.delivered (vote_of_ref c.args.vote) c.in_ok-place.place c.args.moves c.self.invariant distinct is)

pub returns-clause-after : goal.returns-clause-after
returns-clause-after c =
    let grown = c.in_ok-place.ensures.grown in
    let is : slice_get (c.self.inside.values.items ++ grown.0) c.in_ok-place.place ≡ Some (value_of (vote_of_ref c.args.vote)) =
    ap (λ (values : List (List ℕ)). slice_get values c.in_ok-place.place) (sym grown.1) ∙ c.in_ok-place.ensures.place ∙ ap (λ (v : List ℕ). Some v) c.value.ensures.value in
    let distinct = subst AreDistinct grown.1 c.in_ok-place.ensures.distinct in
    let foreign = subst (λ (m : Meaning). IsForeign m.group (vote_of_ref c.args.vote)) (sym c.self.view_is) c.requires.foreign in
    rw (c.or-self-inside.ensures, c.then_some.ensures, c.put_if.ensures, c.put.ensures.readys, c.put.ensures.echoes, grown.1, ← c.self.view_is)
    (counted-meaning c.self.inside.group c.self.inside.values.items grown.0 c.self.inside.echoes.items c.self.inside.readys.items c.self.inside.delivered (vote_of_ref c.args.vote) c.in_ok-place.place c.args.moves c.self.invariant distinct is foreign)

pub invariant_of-self : goal.invariant_of-self
invariant_of-self c = grind (arith, common_steps)

pub returns-in_err-place-clause-err : goal.returns-in_err-place-clause-err
returns-in_err-place-clause-err c = search rules
