use Rattle.pay_link.proofs.Owned.{sealed_owned}
use Rattle.pay_link.proofs.sealing.seal_checked.Goals as goal

pub returns-clause-owned : goal.returns-clause-owned
returns-clause-owned c = λ k own peer shared owner.
    sealed_owned c.args.keys.now k c.args.to c.args.number c.args.body.now c.in_ok-checked.checked c.in_ok-checked.ensures.limits c.in_ok-checked.ensures.value own peer shared owner
