use Rattle.std.proofs.Common.{◌≡◌, ◌++◌}
use Rattle.std.specs.List.{flat_map, range_with_len}
use Rattle.pay_group.specs.Text.{beyond_words}
use Rattle.pay_group.proofs.lines.push_export.Given as goal

-- what is beyond the book of the accounts so far
abbrev pub invariant-loop-account : goal.invariant-loop-account
invariant-loop-account l =
    (l.out.items ≡ l.fn.out.items ++ flat_map (beyond_words l.book l.place l.export) (range_with_len 0 l.account))
