use Rattle.std.proofs.Common.{◌≡◌, ◌++◌, drop}
use Rattle.std.specs.List.{enumerate_from, flat_map}
use Rattle.pay_group.specs.Text.{if_waits}
use Rattle.pay_group.proofs.lines.push_those_that_wait.Given as goal

-- with the words of the entries to come it is the whole text
abbrev pub invariant-loop-number : goal.invariant-loop-number
invariant-loop-number l =
    l.out.items ++ flat_map (if_waits l.book l.account) (enumerate_from l.number (drop l.number l.entries))
    ≡ l.fn.out.items ++ flat_map (if_waits l.book l.account) (enumerate_from 0 l.entries)
