use Rattle.pay_book.proofs.PlainLoops.{IsPassedOver}
use Rattle.pay_book.proofs.plain.PlainBook.step.Given as goal

abbrev pub invariant-loop-account : goal.invariant-loop-account
invariant-loop-account g l = IsPassedOver (g.S.Source.lists l.source) l.initial.self.accounts l.self.accounts l.account
