use Rattle.std.proofs.Common.{refl, sym, ◌∙◌, ap, Some, List, ℕ, arith}
use Rattle.std.specs.Str.{bytes_eq}
use Rattle.std.proofs.lemmas.Option.{slice_get_read, slice_get_within}
use Rattle.pay_echo.specs.Masks.{values_of}
use Rattle.pay_echo.proofs.Lists.{bytes_eq-true}
use Rattle.pay_echo.proofs.Places.{absent-more}
use Rattle.pay_echo.proofs.Candidates.{value-there, length-values}
use Rattle.pay_echo.proofs.candidate.place_of.Goals as goal

pub returns-then-eq : goal.returns-then-eq
returns-then-eq c =
    value-there c.args.candidates.now c.loop-place.place c.index-candidates-place.result
    (slice_get_read c.args.candidates.now _ c.loop-place.place c.index-candidates-place.result refl c.loop-place-test.true c.index-candidates-place.is)
    ∙ ap (λ (v : List ℕ). Some v) (sym c.as_slice.ensures.value ∙ bytes_eq-true c.as_slice.result.now c.args.value.now (sym c.eq.ensures ∙ c.if-eq.true))

pub loop-place-preserved : goal.loop-place-preserved
loop-place-preserved c =
    absent-more (values_of c.args.candidates.now) c.args.value.now c.loop-place.place c.index-candidates-place.result.value
    (value-there c.args.candidates.now c.loop-place.place c.index-candidates-place.result
    (slice_get_read c.args.candidates.now _ c.loop-place.place c.index-candidates-place.result refl c.loop-place-test.true c.index-candidates-place.is))
    (ap (λ (v : List ℕ). bytes_eq v c.args.value.now) (sym c.as_slice.ensures.value) ∙ sym c.eq.ensures ∙ c.if-eq.false)
    c.loop-place.invariant

pub returns : goal.returns
returns c k is =
    let inside = slice_get_within (values_of c.args.candidates.now) k c.args.value.now is in
    let long = length-values c.args.candidates.now in
    c.loop-place.invariant k (omega (arith, inside, long, c.loop-place-test.false)) is
