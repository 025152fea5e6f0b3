use Rattle.std.proofs.Common.{◌≤◌, refl, arith}
use Rattle.std.proofs.lemmas.Grind.{common_steps}
use Rattle.pay_world.specs.Setting.{HasFewFaulty}
use Rattle.pay_world.specs.World.{setting_in}
use Rattle.pay_world.proofs.UnderWay.{all_of_all, alike, asked, books}
use Rattle.pay_world.proofs.WorldLemmas.{few_lie}
use Rattle.pay_world.proofs.convergence.all_taken.Goals as goal

pub returns-clause-exact : goal.returns-clause-exact
returns-clause-exact g c =
    let w = c.args.world.now in
    let limits = c.members-receiver-end.ensures.limits in
    let count = c.members-receiver-end.ensures.value in
    let done : w.genesis.members ≤ c.loop-receiver.receiver = omega (arith, c.loop-receiver-test.false) in
    ((λ _. all_of_all w limits c.loop-receiver.receiver done c.loop-receiver.invariant), (λ _. refl))

pub returns-clause-delivered : goal.returns-clause-delivered
returns-clause-delivered g c = λ _.
    let w = c.args.world.now in
    let limits = c.members-receiver-end.ensures.limits in
    let few : HasFewFaulty (setting_in w) = few_lie c.sizes_of_sets.ensures.listed w.genesis w.liars limits.genesis limits.liars limits.group in
    alike w limits few c.all_converge.ensures.deliveries c.all_converge.ensures.lists ((returns-clause-exact g c).0 refl)

pub returns-clause-asked : goal.returns-clause-asked
returns-clause-asked g c = λ _.
    let w = c.args.world.now in
    let limits = c.members-receiver-end.ensures.limits in
    let few : HasFewFaulty (setting_in w) = few_lie c.sizes_of_sets.ensures.listed w.genesis w.liars limits.genesis limits.liars limits.group in
    asked w limits few c.all_converge.ensures.asks ((returns-clause-exact g c).0 refl)

pub returns-clause-books : goal.returns-clause-books
returns-clause-books g c = λ _. books c.args.world.now c.members-receiver-end.ensures.limits c.book_of_events.ensures.equal (returns-clause-delivered g c refl)

pub loop-receiver-preserved : goal.loop-receiver-preserved
loop-receiver-preserved g c = grind (arith, common_steps)
