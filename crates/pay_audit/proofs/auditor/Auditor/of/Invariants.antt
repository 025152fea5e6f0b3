use Rattle.std.proofs.Common.{◌≡◌, take}
use Rattle.pay_audit.specs.Auditor.{HasTakenExports, taken_by}
use Rattle.pay_audit.proofs.auditor.Auditor.of.Given as goal

-- those so far are taken
abbrev pub invariant-loop-export : goal.invariant-loop-export
invariant-loop-export l = record {
  taken : HasTakenExports (take l.export-index l.exports) l.auditor;
  count : taken_by l.auditor ≡ l.export-index;
}
