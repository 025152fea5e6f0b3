use Rattle.std.proofs.Common.{◌≡◌, drop}
use Rattle.pay_audit.specs.Verdict.{book_of, first_from, if_other}
use Rattle.pay_audit.proofs.auditing.wrong_balance_of.Given as goal

-- none so far
abbrev pub invariant-loop-account : goal.invariant-loop-account
invariant-loop-account g l =
    first_from (if_other (book_of l.export).balances) 0 l.export.balances
    ≡ first_from (if_other (book_of l.export).balances) l.account (drop l.account l.export.balances)
