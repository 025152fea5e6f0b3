use Rattle.std.proofs.Common.{◌≡◌, ◌++◌, ◌∙◌, ℕ, ap, sym, append-nil, arith}
use Rattle.std.specs.List.{flat_map, range_with_len}
use Rattle.pay_sim.specs.Playing.{GameFields}
use Rattle.pay_sim.specs.Script.{shown_member, show_text}
use Rattle.pay_sim.proofs.Showing.{shown_more}
use Rattle.pay_sim.proofs.game.Game.show.Goals as goal

pub loop-number-init : goal.loop-number-init
loop-number-init g c = record {
  books = λ group es b. sym (append-nil c.args.out.now.items);
  end = ap (λ (x : GameFields). x.members) c.self.view_is;
  within = omega arith;
}

pub loop-number-preserved : goal.loop-number-preserved
loop-number-preserved g c = record {
  books = λ group es b. shown_more group es c.loop-number.number _ _ _ (c.loop-number.invariant.books group es b) (c.in_ok-push_shown.ensures group es b);
  end = c.loop-number.invariant.end;
  within = (let less = c.loop-number-test.true in omega arith);
}

pub returns : goal.returns
unfolding show_text
returns g c = λ group es b.
    let all : c.loop-number.number ≡ group.genesis.members = (let done = c.loop-number-test.false in let within = c.loop-number.invariant.within in let end = c.loop-number.invariant.end in let members = b.members in omega arith) in
    c.loop-number.invariant.books group es b ∙ ap (λ (n : ℕ). c.args.out.now.items ++ flat_map (shown_member group es) (range_with_len 0 n)) all
