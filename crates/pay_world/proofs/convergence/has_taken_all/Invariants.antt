use Rattle.std.proofs.Common.{ℕ, ◌<◌}
use Rattle.pay_world.specs.Convergence.{HasTaken}
use Rattle.pay_world.specs.World.{setting_in, history_in}
use Rattle.pay_world.proofs.convergence.has_taken_all.Given as goal

-- so far it took all
abbrev pub invariant-loop-sender : goal.invariant-loop-sender
invariant-loop-sender g l =
    (j : ℕ) → j < l.sender → HasTaken (setting_in l.world) (history_in l.world) l.receiver j
