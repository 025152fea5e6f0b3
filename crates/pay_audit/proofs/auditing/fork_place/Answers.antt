use Rattle.std.proofs.Common.{◌≡◌, ⊎_elim, inl, inr, ℕ, ◌+◌, Bool, true, false, not, length, drop, Option, Some, None, if◌then◌else◌, refl, sym, ◌∙◌, arith}
use Rattle.std.specs.Option.{option_or}
use Rattle.std.specs.List.{zip}
use Rattle.std.specs.Str.{bytes_eq}
use Rattle.std.proofs.lemmas.Bool.{cases_lt}
use Rattle.pay_audit.specs.Verdict.{first_from, fork_place, if_differ}
use Rattle.pay_audit.proofs.Firsts.{next_pair, no_more_pairs}
use Rattle.pay_audit.proofs.auditing.fork_place.Goals as goal

differ : (b : Bool) (place : ℕ) (rest : Option ℕ) → true ≡ not b → Some place ≡ option_or (if b then None else Some place) rest
differ true place rest h = absurd cc
differ false place rest h = refl

are_same : (b : Bool) (place : ℕ) (rest : Option ℕ) → false ≡ not b → option_or (if b then None else Some place) rest ≡ rest
are_same true place rest h = refl
are_same false place rest h = absurd cc

pub returns-then-ne : goal.returns-then-ne
unfolding fork_place
returns-then-ne c =
    let one = c.args.one.now in
    let other = c.args.other.now in
    let place = c.loop-place.place in
    let v = c.at.result.now in
    let w = c.at-in-loop-place.result.now in
    differ (bytes_eq v w) place (first_from if_differ (place + 1) (zip (drop (place + 1) one) (drop (place + 1) other))) c.if-ne.ensures
    ∙ sym (next_pair if_differ place one other v w c.at.ensures c.at-in-loop-place.ensures) ∙ sym c.loop-place.invariant

pub loop-place-preserved : goal.loop-place-preserved
loop-place-preserved c =
    let one = c.args.one.now in
    let other = c.args.other.now in
    let place = c.loop-place.place in
    let v = c.at.result.now in
    let w = c.at-in-loop-place.result.now in
    c.loop-place.invariant ∙ next_pair if_differ place one other v w c.at.ensures c.at-in-loop-place.ensures
    ∙ are_same (bytes_eq v w) place (first_from if_differ (place + 1) (zip (drop (place + 1) one) (drop (place + 1) other))) c.if-ne.ensures

pub returns : goal.returns
unfolding fork_place
returns c =
    let one = c.args.one.now in
    let other = c.args.other.now in
    let place = c.loop-place.place in
    sym (c.loop-place.invariant ∙ no_more_pairs if_differ place one other
    (⊎_elim (λ less. inl (omega (arith, less, c.loop-place-test.false, c.min-place-end.ensures, c.len.ensures.value, c.len-2.ensures.value)))
    (λ order. inr (omega (arith, order, c.loop-place-test.false, c.min-place-end.ensures, c.len.ensures.value, c.len-2.ensures.value)))
    (cases_lt (length one) (length other))))
