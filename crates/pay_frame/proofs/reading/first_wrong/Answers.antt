use Rattle.std.proofs.Common.{rules, below_more, ◌≡◌, true, arith}
use Rattle.std.proofs.lemmas.Grind.{common_steps}
use Rattle.pay_frame.specs.Places.{may_stand}
use Rattle.pay_frame.proofs.reading.first_wrong.Goals as goal

pub loop-place-preserved : goal.loop-place-preserved
loop-place-preserved c = below_more (λ k. may_stand c.args.bytes.now k ≡ true) c.loop-place.place c.loop-place.invariant (search rules)

pub returns-then-not-may_stand-clause-some : goal.returns-then-not-may_stand-clause-some
returns-then-not-may_stand-clause-some c = grind (arith, common_steps)
