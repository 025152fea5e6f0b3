use Rattle.std.proofs.Common.{◌-◌, length, sum}
use Rattle.pay_book.specs.Front.{entry_count}
use Rattle.pay_book.specs.Book.{entries_for}
use Rattle.pay_book.proofs.PlainLoops.{IsSettling}
use Rattle.pay_book.proofs.plain.PlainBookSettle.settle.Given as goal

abbrev pub invariant-loop-settled : goal.invariant-loop-settled
invariant-loop-settled g l = IsSettling (g.S.Source.lists l.source) l.initial.self.accounts l.self.accounts l.settled

-- the entries that are not settled
abbrev pub decreases-loop-settled : goal.decreases-loop-settled
decreases-loop-settled g l =
    entry_count (length l.self.accounts.opening) (entries_for l.self.accounts (g.S.Source.lists l.source)) - sum l.self.accounts.front
