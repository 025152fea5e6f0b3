use Rattle.std.proofs.Common.{◌≡◌, arith, length}
use Rattle.pay_link.specs.TestKeys.{test_key}
use Rattle.pay_link.proofs.Lists.{filled_more, length-filled}
use Rattle.pay_link.proofs.keys.test_keys.Goals as goal

pub loop-place-preserved : goal.loop-place-preserved
loop-place-preserved c =
    let pushed = c.in_ok-push.ensures in
    filled_more (test_key c.args.own) _ _ _ c.loop-place.invariant (rw c.test_key.ensures at pushed.items)

pub of_parts-requires : goal.of_parts-requires
of_parts-requires c =
    let long : length c.loop-place.keys.items ≡ c.loop-place.place = length-filled _ _ _ c.loop-place.invariant in
    let genesis = c.members-members.ensures in
    record {
      own = omega (arith, long, genesis.value);
      few = omega (arith, long, genesis.value, genesis.limits.few);
    }

pub returns-clause-genesis : goal.returns-clause-genesis
returns-clause-genesis c =
    let long : length c.loop-place.keys.items ≡ c.loop-place.place = length-filled _ _ _ c.loop-place.invariant in
    rw c.in_ok-kept.ensures (omega (arith, long, c.members-members.ensures.value))
