use Rattle.std.proofs.Common.{◌≡◌, take}
use Rattle.std.specs.Prelude.{sum}
use Rattle.pay_group.proofs.lines.total.Given as goal

-- those of the accounts so far
abbrev pub invariant-loop-account : goal.invariant-loop-account
invariant-loop-account l = l.total ≡ sum (take l.account l.book.balances)
