use Rattle.std.proofs.Common.{◌≡◌, ◌++◌, take}
use Rattle.std.specs.List.{flat_map}
use Rattle.pay_book.specs.Payment.{entries_in}
use Rattle.pay_audit.specs.Findings.{payment_or_void}
use Rattle.pay_audit.proofs.findings.push_entries.Given as goal

-- those of the entries so far
abbrev pub invariant-loop-place : goal.invariant-loop-place
invariant-loop-place l =
    l.out.items ≡ l.fn.out.items ++ flat_map payment_or_void (take l.place (entries_in l.members l.owner l.value))
