use Rattle.std.proofs.Common.{arith}
use Rattle.std.proofs.lemmas.Grind.{common_steps}
use Rattle.pay_sim.proofs.Short.{one_is_long, all_are_short}
use Rattle.pay_sim.proofs.group.as_members.Goals as goal

pub returns-in_default : goal.returns-in_default
returns-in_default c = one_is_long c.args.numbers.now c.loop-number.number-index c.loop-number-test.true c.in_default.ensures

pub returns : goal.returns
returns c = all_are_short c.args.numbers.now c.loop-number.members.items c.loop-number.number-index c.loop-number-test.false c.loop-number.invariant.same c.loop-number.invariant.short

pub loop-number-preserved : goal.loop-number-preserved
loop-number-preserved c = grind (arith, common_steps)
