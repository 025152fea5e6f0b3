use Rattle.pay_pending.proofs.Settling.{IsSettling, work_left}
use Rattle.pay_pending.proofs.waiting.WaitingBookSettle.settle.Given as goal

abbrev pub invariant-loop-account : goal.invariant-loop-account
invariant-loop-account g l = IsSettling (g.S.Source.lists l.source) l.fn.self.accounts l.self.accounts l.self.waiting.items l.settled

abbrev pub decreases-loop-account : goal.decreases-loop-account
decreases-loop-account g l = work_left (g.S.Source.lists l.source) l.self.accounts l.self.waiting.items
