use Rattle.std.proofs.Common.{◌≡◌, ◌++◌}
use Rattle.std.specs.List.{flat_map, range_with_len}
use Rattle.pay_group.specs.Text.{account_words}
use Rattle.pay_group.proofs.lines.push_accounts.Given as goal

-- the lines of the accounts so far
abbrev pub invariant-loop-account : goal.invariant-loop-account
invariant-loop-account l = (l.out.items ≡ l.fn.out.items ++ flat_map (account_words l.book) (range_with_len 0 l.account))
