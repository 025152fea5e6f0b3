use Rattle.std.proofs.Common.{◌+◌, ◌<◌, [], ◌∷◌, ◌++◌, length, Ok, sym, subst, refl, arith}
use Rattle.std.proofs.lemmas.Grind.{common_steps}
use Rattle.pay_world.specs.Passing.{passing}
use Rattle.pay_sim.specs.declared.game.TheConstants.{MOST_EVENTS}
use Rattle.pay_sim.specs.Playing.{GameFields, IsAfter, IsMade}
use Rattle.pay_sim.proofs.Making.{makes_one}
use Rattle.pay_sim.proofs.game.Game.pass_on.Goals as goal

pub invariant_of-self : goal.invariant_of-self
invariant_of-self g c =
    let game = c.self.invariant.2 in
    let was = game.behind in
    let room : length game.events < MOST_EVENTS = (let made = was.made in let less = c.if-self-lt-MOST_EVENTS.true in omega arith) in
    let event = passing c.self.inside.world c.args.from c.args.to c.args.number in
    let made = makes_one game.group game.events _ was c.world_by_events.ensures.one_more c.what_is_forged.ensures.answered _ event c.in-Ok.reply room c.in-Ok.ensures.refused c.in-Ok.ensures.answers c.in-Ok.ensures.count refl refl in
    ((let less = c.if-self-lt-MOST_EVENTS.true in omega arith), c.self.invariant.1, record { group = game.group; events = game.events ++ event ∷ []; behind = made.1 })

pub returns-in-Ok-clause-made : goal.returns-in-Ok-clause-made
returns-in-Ok-clause-made g c = λ group es b.
    let b1 = subst (IsAfter group es) (sym c.self.view_is) b in
    let room : length es < MOST_EVENTS = (let made = b1.made in let less = c.if-self-lt-MOST_EVENTS.true in omega arith) in
    let event = passing c.self.inside.world c.args.from c.args.to c.args.number in
    let new : GameFields = record { world = c.pass.new.self; members = c.self.inside.members; made = c.self.inside.made + 1 } in
    subst (λ (x : GameFields). IsMade group es (passing x.world c.args.from c.args.to c.args.number) new (Ok c.in-Ok.reply)) c.self.view_is
    (makes_one group es _ b1 c.world_by_events.ensures.one_more c.what_is_forged.ensures.answered new event c.in-Ok.reply room c.in-Ok.ensures.refused c.in-Ok.ensures.answers c.in-Ok.ensures.count refl refl)

pub returns-in-Err-clause-made : goal.returns-in-Err-clause-made
returns-in-Err-clause-made g c = grind (arith, common_steps)
