use Rattle.std.proofs.Common.{◌≤◌, refl, arith}
use Rattle.pay_world.proofs.UnderWay.{up_to_all}
use Rattle.pay_world.proofs.convergence.has_taken_all.Goals as goal

pub returns : goal.returns
returns g c =
    let w = c.args.world.now in
    let limits = c.members-sender-end.ensures.limits in
    let count = c.members-sender-end.ensures.value in
    let done : w.genesis.members ≤ c.loop-sender.sender = omega (arith, c.loop-sender-test.false) in
    ((λ _. up_to_all w limits c.loop-sender.sender done c.args.receiver c.loop-sender.invariant), (λ _. refl))
