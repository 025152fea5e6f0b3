use Rattle.std.proofs.Common.{◌≡◌, take}
use Rattle.pay_book.proofs.accounts.Accounts.new.Given as goal

abbrev pub invariant-loop-account : goal.invariant-loop-account
invariant-loop-account l = l.opening.items ≡ take l.account l.genesis.opening
