use Rattle.std.proofs.Common.{◌≡◌, ◌<◌, ℕ, Some, map, slice_get, take}
use Rattle.pay_audit.specs.Export.{ExportFields, IsExport}
use Rattle.pay_group.proofs.booking.lend_each.Given as goal

-- those so far
abbrev pub invariant-loop-export : goal.invariant-loop-export
invariant-loop-export l = record {
  lent : map (λ e. e.now) l.lent.items ≡ take l.export-index l.exports;
  limits : (x : ℕ) (e : ExportFields) → x < l.export-index → slice_get l.exports x ≡ Some e → IsExport e;
}
