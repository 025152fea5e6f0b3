use Rattle.std.proofs.Common.{◌≡◌, ◌++◌}
use Rattle.std.specs.List.{flat_map, range_with_len}
use Rattle.pay_audit.specs.Findings.{account_finding_words}
use Rattle.pay_audit.proofs.findings.push_book.Given as goal

-- the lines of the accounts so far
abbrev pub invariant-loop-account : goal.invariant-loop-account
invariant-loop-account l = (l.out.items ≡ l.fn.out.items ++ flat_map (account_finding_words l.fn.named) (range_with_len 0 l.account))
