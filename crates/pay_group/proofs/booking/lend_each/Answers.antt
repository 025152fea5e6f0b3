use Rattle.std.proofs.Common.{◌≡◌, ◌≤◌, Bor, [], ◌∷◌, ◌++◌, Some, length, map, slice_get, refl, ap, sym, subst, ◌∙◌, ⊎_elim, arith}
use Rattle.std.proofs.lemmas.Bool.{cases_lt}
use Rattle.std.proofs.lemmas.List.{map-append, take_all}
use Rattle.std.proofs.lemmas.Option.{same_Some, slice_get_read, slice_get_within}
use Rattle.pay_audit.specs.Export.{ExportFields, IsExport}
use Rattle.pay_group.proofs.Numbering.{take_next}
use Rattle.pay_group.proofs.booking.lend_each.Goals as goal

pub loop-export-preserved : goal.loop-export-preserved
loop-export-preserved c =
    let exports = c.args.exports.now in
    let place = c.loop-export.export-index in
    let e = c.export-item.result in
    let inv = c.loop-export.invariant in
    let at : slice_get exports place ≡ Some e = slice_get_read exports (length exports) place e refl (omega arith) c.export-item.is in
    record {
      lent = ap (map (λ (b : Bor ExportFields). b.now)) c.in_ok-push.ensures.items
          ∙ map-append (λ (b : Bor ExportFields). b.now) c.loop-export.lent.items _
          ∙ ap (λ es. es ++ e ∷ []) inv.lent ∙ sym (take_next exports place e at);
      limits = λ x d lt got. ⊎_elim
          (λ earlier. inv.limits x d earlier got)
          (λ here. let same : x ≡ place = omega (arith, lt, here) in
          subst IsExport (same_Some e d (sym at ∙ ap (slice_get exports) (sym same) ∙ got)) c.member.ensures.limits)
          (cases_lt x place);
    }

pub returns-clause-lent : goal.returns-clause-lent
returns-clause-lent c =
    let all : length c.args.exports.now ≤ c.loop-export.export-index = omega (arith, c.loop-export-test.false) in
    c.loop-export.invariant.lent ∙ take_all c.loop-export.export-index c.args.exports.now all

pub returns-clause-limits : goal.returns-clause-limits
returns-clause-limits c x e at =
    c.loop-export.invariant.limits x e (omega (arith, c.loop-export-test.false, slice_get_within c.args.exports.now x e at)) at
