use Rattle.std.proofs.Common.{◌≡◌, take, map}
use Rattle.pay_world.specs.World.{fresh_place}
use Rattle.pay_world.proofs.world.World.new.Given as goal

abbrev pub invariant-loop-keys : goal.invariant-loop-keys
invariant-loop-keys g l = l.members.items ≡ map (fresh_place l.genesis l.liars) (take l.keys-index l.keys)
