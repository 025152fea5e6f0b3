use Rattle.std.proofs.Common.{arith, rules}
use Rattle.std.proofs.lemmas.Grind.{common_steps}
use Rattle.pay_pending.proofs.waiting.WaitingBook.wake.Goals.{in-Pay, in_default}
use Rattle.pay_pending.proofs.waiting.WaitingBook.wake.Goals as goal

pub returns-clause-kept : goal.returns-clause-kept
returns-clause-kept c a on =
    c.put-2.ensures.kept a
    (elim c.match-entry.branch [
      | in-Pay w ↦ rw w.self-is (w.put.ensures.kept a on)
      | in_default w ↦ rw w.self-is on
    ])

pub returns-clause-owner : goal.returns-clause-owner
returns-clause-owner c = grind (arith, common_steps)

pub returns-clause-payee : goal.returns-clause-payee
returns-clause-payee c = search rules
