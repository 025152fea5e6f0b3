use Rattle.std.proofs.Common.{◌≡◌, ◌<◌, ◌-◌, ℕ, Err, ap, subst, arith, rules}
use Rattle.std.specs.List.{range_with_len}
use Rattle.pay_sim.specs.All.{FeedsMember, MakesPass, InTurn}
use Rattle.pay_sim.specs.Playing.{GameFields}
use Rattle.pay_sim.proofs.Bringing.{turn_more, turn_broken, turn_done}
use Rattle.pay_sim.proofs.game.Game.pass.Goals as goal

pub loop-to-init : goal.loop-to-init
loop-to-init g c = record {
  leads = λ group es b. (
    es,
    b,
    λ last stop rest.
        let all : group.genesis.members - 0 ≡ group.genesis.members = omega arith in
        subst (λ (n : ℕ). InTurn (FeedsMember group) (range_with_len 0 n) es last stop) all rest,
  );
  end = ap (λ (x : GameFields). x.members) c.self.view_is;
  count = omega arith;
}

pub feed-requires : goal.feed-requires
feed-requires g c = (let few = c.self.invariant.1 in let less = c.loop-to-test.true in omega arith)

pub returns-in_err-feed-clause-brought : goal.returns-in_err-feed-clause-brought
returns-in_err-feed-clause-brought g c = λ group es b.
    let l = c.loop-to.invariant.leads group es b in
    let less : c.loop-to.to < group.genesis.members = (let test = c.loop-to-test.true in let end = c.loop-to.invariant.end in let members = b.members in omega arith) in
    let same : c.from_residual.result ≡ Err c.in_err-feed.field-0.0 = search rules in
    rw same (turn_broken group (FeedsMember group) group.genesis.members (MakesPass group es) c.loop-to.to c.loop-to.self c.feed.new.self c.in_err-feed.field-0.0 less l (c.in_err-feed.ensures.brought group))

pub loop-to-preserved : goal.loop-to-preserved
loop-to-preserved g c = record {
  leads = λ group es b.
      let l = c.loop-to.invariant.leads group es b in
      let less : c.loop-to.to < group.genesis.members = (let test = c.loop-to-test.true in let end = c.loop-to.invariant.end in let members = b.members in omega arith) in
      turn_more group (FeedsMember group) group.genesis.members (MakesPass group es) c.loop-to.to _ _ less l (c.in_ok-feed.ensures.brought group);
  end = c.loop-to.invariant.end;
  count = (let was = c.loop-to.invariant.count in let is = c.in_ok-feed.ensures.count in omega arith);
}

pub returns-clause-brought : goal.returns-clause-brought
returns-clause-brought g c = λ group es b.
    let l = c.loop-to.invariant.leads group es b in
    turn_done group (FeedsMember group) group.genesis.members (MakesPass group es) c.loop-to.to _ (let test = c.loop-to-test.false in let end = c.loop-to.invariant.end in let members = b.members in omega arith) l
