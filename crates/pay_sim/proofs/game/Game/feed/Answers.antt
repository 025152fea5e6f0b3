use Rattle.std.proofs.Common.{◌≡◌, ◌<◌, ◌-◌, ℕ, Err, ap, subst, arith, rules}
use Rattle.std.specs.List.{range_with_len}
use Rattle.pay_sim.specs.All.{Draws, FeedsMember, InTurn}
use Rattle.pay_sim.specs.Playing.{GameFields}
use Rattle.pay_sim.proofs.Bringing.{turn_more, turn_broken, turn_done}
use Rattle.pay_sim.proofs.game.Game.feed.Goals as goal

pub loop-from-init : goal.loop-from-init
loop-from-init g c = record {
  leads = λ group es b. (
    es,
    b,
    λ last stop rest.
        let all : group.genesis.members - 0 ≡ group.genesis.members = omega arith in
        subst (λ (n : ℕ). InTurn (λ from. Draws group from c.args.to) (range_with_len 0 n) es last stop) all rest,
  );
  end = ap (λ (x : GameFields). x.members) c.self.view_is;
  count = omega arith;
}

pub draw-requires-clause-from : goal.draw-requires-clause-from
draw-requires-clause-from g c = (let few = c.self.invariant.1 in let less = c.loop-from-test.true in omega arith)

pub returns-in_err-draw-clause-brought : goal.returns-in_err-draw-clause-brought
returns-in_err-draw-clause-brought g c = λ group es b.
    let l = c.loop-from.invariant.leads group es b in
    let less : c.loop-from.from < group.genesis.members = (let test = c.loop-from-test.true in let end = c.loop-from.invariant.end in let members = b.members in omega arith) in
    let same : c.from_residual.result ≡ Err c.in_err-draw.field-0.0 = search rules in
    rw same (turn_broken group (λ from. Draws group from c.args.to) group.genesis.members (FeedsMember group c.args.to es) c.loop-from.from c.loop-from.self c.draw.new.self c.in_err-draw.field-0.0 less l (c.in_err-draw.ensures.brought group))

pub loop-from-preserved : goal.loop-from-preserved
loop-from-preserved g c = record {
  leads = λ group es b.
      let l = c.loop-from.invariant.leads group es b in
      let less : c.loop-from.from < group.genesis.members = (let test = c.loop-from-test.true in let end = c.loop-from.invariant.end in let members = b.members in omega arith) in
      turn_more group (λ from. Draws group from c.args.to) group.genesis.members (FeedsMember group c.args.to es) c.loop-from.from _ _ less l (c.in_ok-draw.ensures.brought group);
  end = c.loop-from.invariant.end;
  count = (let was = c.loop-from.invariant.count in let is = c.in_ok-draw.ensures.count in omega arith);
}

pub returns-clause-brought : goal.returns-clause-brought
returns-clause-brought g c = λ group es b.
    let l = c.loop-from.invariant.leads group es b in
    turn_done group (λ from. Draws group from c.args.to) group.genesis.members (FeedsMember group c.args.to es) c.loop-from.from _ (let test = c.loop-from-test.false in let end = c.loop-from.invariant.end in let members = b.members in omega arith) l
