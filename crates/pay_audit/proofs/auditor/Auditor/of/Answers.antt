use Rattle.std.proofs.Common.{◌≡◌, ◌+◌, length, take, Some, slice_get, refl, ap, sym, subst, ◌∙◌, arith}
use Rattle.std.proofs.lemmas.List.{take_all}
use Rattle.std.proofs.lemmas.Option.{slice_get_read}
use Rattle.pay_audit.specs.Auditor.{HasTakenExports}
use Rattle.pay_audit.proofs.Pushing.{take_next}
use Rattle.pay_audit.proofs.auditor.Auditor.of.Goals as goal

pub loop-export-preserved : goal.loop-export-preserved
loop-export-preserved c =
    let exports = c.args.exports.now in
    let place = c.loop-export.export-index in
    let e = c.export-item.result in
    let so_far = c.loop-export.invariant in
    let at : slice_get exports place ≡ Some e = slice_get_read exports (length exports) place e refl (omega arith) c.export-item.is in
    record {
      taken = subst (λ es. HasTakenExports es c.in_ok-auditor.auditor) (sym (take_next exports place e at))
          (c.in_ok-auditor.ensures.taken (take place exports) so_far.taken);
      count = c.in_ok-auditor.ensures.count ∙ ap (λ n. n + 1) so_far.count;
    }

pub returns : goal.returns
returns c =
    let exports = c.args.exports.now in
    let place = c.loop-export.export-index in
    subst (λ es. HasTakenExports es c.loop-export.auditor) (take_all place exports (omega (arith, c.loop-export-test.false))) c.loop-export.invariant.taken
