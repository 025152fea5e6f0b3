use Rattle.std.proofs.Common.{Some, length, refl, sym, ap, ◌∙◌, arith}
use Rattle.std.proofs.lemmas.Option.{slice_get_read}
use Rattle.pay_echo.specs.Masks.{has, values_of}
use Rattle.pay_echo.specs.Plain.{value_at}
use Rattle.pay_echo.proofs.Candidates.{IsOut, value-there, place-found, place-none, not-there}
use Rattle.pay_echo.proofs.candidate.vote_at.Goals as goal

pub returns-then-is_in : goal.returns-then-is_in
returns-then-is_in c =
    let candidates = c.args.candidates.now in
    let there = ap (λ mask. has mask c.args.process) (sym c.mask.ensures) ∙ sym c.is_in.ensures ∙ c.if-is_in.true in
    let place = place-found candidates c.args.process c.args.kind c.loop-candidate.candidate-index c.candidate-item.result c.loop-candidate-test.true c.candidate-item.is there c.loop-candidate.invariant in
    let is = value-there candidates c.loop-candidate.candidate-index c.candidate-item.result (slice_get_read candidates _ c.loop-candidate.candidate-index c.candidate-item.result refl c.loop-candidate-test.true c.candidate-item.is) in
    ap Some c.as_slice.ensures.value ∙ sym is ∙ sym (ap (value_at (values_of candidates)) place)

pub loop-candidate-preserved : goal.loop-candidate-preserved
loop-candidate-preserved c =
    let out = ap (λ mask. has mask c.args.process) (sym c.mask.ensures) ∙ sym c.is_in.ensures ∙ c.if-is_in.false in
    not-there c.args.candidates.now c.args.process c.args.kind c.loop-candidate.candidate-index c.candidate-item.result c.loop-candidate-test.true c.candidate-item.is out c.loop-candidate.invariant

pub returns : goal.returns
returns c =
    let candidates = c.args.candidates.now in
    let out : IsOut candidates c.args.process c.args.kind (length candidates) = λ k below. c.loop-candidate.invariant k (omega (arith, below, c.loop-candidate-test.false)) in
    sym (ap (value_at (values_of candidates)) (place-none candidates c.args.process c.args.kind out))
