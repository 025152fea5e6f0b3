use Rattle.std.proofs.Common.{◌≡◌, ◌-◌, length, Err, rules}
use Rattle.pay_sim.proofs.Bringing.{told_all, told_broken}
use Rattle.pay_sim.proofs.game.Game.all.Goals as goal

pub returns-in_err-bring_all : goal.returns-in_err-bring_all
returns-in_err-bring_all g c = λ group es b.
    let same : c.from_residual.result ≡ Err c.in_err-bring_all.field-0.0 = search rules in
    rw same (told_broken group es c.args.out.now.items c.args.out.now.items c.bring_all.new.self c.in_err-bring_all.field-0.0 (c.in_err-bring_all.ensures.brought group es b))

pub returns : goal.returns
returns g c = λ group es b.
    let brought = c.in_ok-bring_all.ensures.brought group es b in
    let count : c.from.result ≡ length brought.0 - length es = (let was = b.made in let is = brought.2.made in search rules) in
    told_all group es brought.0 c.args.out.now.items _ _ _ _ c.bring_all.new.self c.from.result count brought.1 brought.2
    c.in_ok-push_word.ensures c.in_ok-push_number.ensures c.in_ok-push_word-2.ensures (c.in_ok-push_converged.ensures group brought.0 brought.2)
