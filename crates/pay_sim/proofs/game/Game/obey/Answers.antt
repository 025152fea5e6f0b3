use Rattle.std.proofs.Common.{ℕ, sym, subst}
use Rattle.pay_world.specs.declared.event.WorldEvent.TheVariants as event
use Rattle.pay_sim.specs.declared.command.ScriptCommand.{ScriptCommand}
use Rattle.pay_sim.specs.Script.{Obeys, Tells, TellsBring, lie_frame}
use Rattle.pay_sim.specs.Playing.{IsDone}
use Rattle.pay_sim.proofs.game.Game.obey.Goals as goal

pub returns-in-Ask : goal.returns-in-Ask
returns-in-Ask g c = λ group es b.
    subst (λ (x : ScriptCommand). IsDone (Obeys group es x) group c.args.out.now.items c.tell.new.out.items c.tell.new.self c.tell.result) (sym c.in-Ask.is)
    (subst (λ (i : ℕ). IsDone (Tells group es (event.Ask i c.in-Ask.value)) group c.args.out.now.items c.tell.new.out.items c.tell.new.self c.tell.result) c.from.ensures
    (c.tell.ensures group es b))

pub returns-in-Bring : goal.returns-in-Bring
returns-in-Bring g c = λ group es b.
    subst (λ (x : ScriptCommand). IsDone (Obeys group es x) group c.args.out.now.items c.bring.new.out.items c.bring.new.self c.bring.result) (sym c.in-Bring.is)
    (subst (λ (to : ℕ). IsDone (TellsBring group es c.in-Bring.from to c.in-Bring.number) group c.args.out.now.items c.bring.new.out.items c.bring.new.self c.bring.result) c.from-in-Bring-2.ensures
    (subst (λ (from : ℕ). IsDone (TellsBring group es from c.from-in-Bring-2.result c.in-Bring.number) group c.args.out.now.items c.bring.new.out.items c.bring.new.self c.bring.result) c.from-in-Bring.ensures
    (c.bring.ensures group es b)))

pub returns-in-Lie : goal.returns-in-Lie
returns-in-Lie g c = λ group es b.
    subst (λ (x : ScriptCommand). IsDone (Obeys group es x) group c.args.out.now.items c.lie.new.out.items c.lie.new.self c.lie.result) (sym c.in-Lie.is)
    (subst (λ (to : ℕ). IsDone (Tells group es (event.Bring to (lie_frame group es c.in-Lie.from to c.in-Lie.number c.in-Lie.body))) group c.args.out.now.items c.lie.new.out.items c.lie.new.self c.lie.result) c.from-in-Lie-2.ensures
    (subst (λ (from : ℕ). IsDone (Tells group es (event.Bring c.from-in-Lie-2.result (lie_frame group es from c.from-in-Lie-2.result c.in-Lie.number c.in-Lie.body))) group c.args.out.now.items c.lie.new.out.items c.lie.new.self c.lie.result) c.from-in-Lie.ensures
    (c.lie.ensures group es b)))

pub returns-in-Raw : goal.returns-in-Raw
returns-in-Raw g c = λ group es b.
    subst (λ (x : ScriptCommand). IsDone (Obeys group es x) group c.args.out.now.items c.tell-in-Raw.new.out.items c.tell-in-Raw.new.self c.tell-in-Raw.result) (sym c.in-Raw.is)
    (subst (λ (to : ℕ). IsDone (Tells group es (event.Bring to c.in-Raw.bytes)) group c.args.out.now.items c.tell-in-Raw.new.out.items c.tell-in-Raw.new.self c.tell-in-Raw.result) c.from-in-Raw.ensures
    (c.tell-in-Raw.ensures group es b))
