use Rattle.std.proofs.Common.{refl, sym, ◌∙◌, ap, Some, List, ℕ, arith}
use Rattle.std.specs.Str.{bytes_eq}
use Rattle.std.proofs.lemmas.Option.{slice_get_read, slice_get_within}
use Rattle.pay_echo.proofs.Lists.{bytes_eq-true}
use Rattle.pay_echo.proofs.Places.{absent-more}
use Rattle.pay_echo.proofs.plain.place_of.Goals as goal

pub loop-place-preserved : goal.loop-place-preserved
loop-place-preserved c =
    absent-more c.args.values.now c.args.value.now c.loop-place.place c.index-values-place.result
    (slice_get_read c.args.values.now _ c.loop-place.place c.index-values-place.result refl c.loop-place-test.true c.index-values-place.is)
    (ap (λ (v : List ℕ). bytes_eq v c.args.value.now) (sym c.as_slice.ensures.value) ∙ sym c.eq.ensures ∙ c.if-eq.false)
    c.loop-place.invariant

pub returns-then-eq : goal.returns-then-eq
returns-then-eq c =
    slice_get_read c.args.values.now _ c.loop-place.place c.index-values-place.result refl c.loop-place-test.true c.index-values-place.is
    ∙ ap (λ (v : List ℕ). Some v) (sym c.as_slice.ensures.value ∙ bytes_eq-true c.as_slice.result.now c.args.value.now (sym c.eq.ensures ∙ c.if-eq.true))

pub returns : goal.returns
returns c k is =
    let inside = slice_get_within c.args.values.now k c.args.value.now is in
    c.loop-place.invariant k (omega arith) is
