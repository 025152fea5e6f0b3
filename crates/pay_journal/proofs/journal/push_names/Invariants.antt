use Rattle.std.proofs.Common.{◌≡◌, ◌++◌}
use Rattle.std.specs.List.{flat_map, range_with_len}
use Rattle.pay_journal.specs.Journal.{declared_words}
use Rattle.pay_journal.proofs.journal.push_names.Given as goal

-- the names of the accounts so far
abbrev pub invariant-loop-account : goal.invariant-loop-account
invariant-loop-account l = (l.out.items ≡ l.fn.out.items ++ flat_map declared_words (range_with_len 0 l.account))
