use Rattle.std.proofs.Common.{ℕ, ◌<◌}
use Rattle.pay_world.specs.Convergence.{HasTaken}
use Rattle.pay_world.specs.World.{setting_in, history_in}
use Rattle.pay_world.proofs.convergence.all_taken.Given as goal

-- so far each took all
abbrev pub invariant-loop-receiver : goal.invariant-loop-receiver
invariant-loop-receiver g l =
    (i j : ℕ) → i < l.receiver → HasTaken (setting_in l.world) (history_in l.world) i j
