use Rattle.std.proofs.Common.{rules}
use Rattle.pay_node.proofs.Replayed.{all_counted, replayed_on}
use Rattle.pay_node.proofs.closing.count_all.Goals as goal

pub loop-place-preserved : goal.loop-place-preserved
loop-place-preserved c =
    let on = replayed_on c.args.replay.now c.loop-place.replay c.replay_to.new.replay c.loop-place.place c.args.seats.now c.count_here.new.counts
    c.loop-place.invariant.0 (search rules) (c.in_ok-count_here.ensures.counted (search rules)) in
    (on.0, on.1, c.count_here.ensures.same, on.2)

pub returns : goal.returns
returns c = λ yes.
    all_counted c.args.replay.now.member c.args.seats.now c.loop-place.counts c.loop-place.invariant.1 (c.are_all_counted.ensures yes)
