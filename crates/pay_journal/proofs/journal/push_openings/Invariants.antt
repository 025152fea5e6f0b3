use Rattle.std.proofs.Common.{◌≡◌, ◌++◌}
use Rattle.std.specs.List.{flat_map, range_with_len}
use Rattle.pay_journal.specs.Journal.{opening_posting}
use Rattle.pay_journal.proofs.journal.push_openings.Given as goal

-- what the accounts so far opened with
abbrev pub invariant-loop-account : goal.invariant-loop-account
invariant-loop-account l =
    (l.out.items ≡ l.fn.out.items ++ flat_map (opening_posting l.export) (range_with_len 0 l.account))
