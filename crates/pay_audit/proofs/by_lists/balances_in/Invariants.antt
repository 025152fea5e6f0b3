use Rattle.std.proofs.Common.{◌≡◌, take}
use Rattle.pay_audit.proofs.by_lists.balances_in.Given as goal

-- those of the accounts so far
abbrev pub invariant-loop-account : goal.invariant-loop-account
invariant-loop-account g l = l.balances.items ≡ take l.account (g.B.Settle.shows l.book).balances
