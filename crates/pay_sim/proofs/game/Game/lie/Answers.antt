use Rattle.std.proofs.Common.{◌≡◌, ℕ, List, subst, ap, ◌∙◌}
use Rattle.pay_world.specs.declared.event.WorldEvent.TheVariants.{Bring}
use Rattle.pay_sim.specs.TestFrames.{test_frame}
use Rattle.pay_sim.specs.Script.{Tells, lie_frame}
use Rattle.pay_sim.specs.Playing.{IsDone}
use Rattle.pay_sim.proofs.game.Game.lie.Goals as goal

pub returns : goal.returns
returns g c = λ group es b.
    let frame : c.in_ok-bytes.bytes ≡ lie_frame group es c.args.from c.args.to c.args.number c.args.body.now =
    c.in_ok-bytes.ensures ∙ ap (λ (n : ℕ). test_frame c.args.from c.args.to n c.args.body.now) (c.lie_number-number.ensures group es b) in
    subst (λ (l : List ℕ). IsDone (Tells group es (Bring c.args.to l)) group c.args.out.now.items c.tell.new.out.items c.tell.new.self c.tell.result) frame
    (c.tell.ensures group es b)
