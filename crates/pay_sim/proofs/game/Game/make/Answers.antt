use Rattle.std.proofs.Common.{◌<◌, [], ◌∷◌, ◌++◌, length, Err, sym, subst, refl, arith}
use Rattle.std.proofs.lemmas.Grind.{common_steps}
use Rattle.pay_world.specs.RunLaws.{IsSaidTo}
use Rattle.pay_sim.specs.declared.game.TheConstants.{MOST_EVENTS}
use Rattle.pay_sim.specs.Playing.{IsAfter}
use Rattle.pay_sim.proofs.Making.{makes_one, stops_forged}
use Rattle.pay_sim.proofs.game.Game.make.Goals as goal

pub invariant_of-self : goal.invariant_of-self
invariant_of-self g c =
    let game = c.self.invariant.2 in
    let was = game.behind in
    let room : length game.events < MOST_EVENTS = (let made = was.made in let less = c.if-self-ge-MOST_EVENTS.false in omega arith) in
    let made = makes_one game.group game.events _ was c.world_by_events.ensures.one_more c.what_is_forged.ensures.answered _ c.args.event c.in-Ok.reply room c.in-Ok.ensures.refused c.in-Ok.ensures.answers c.in-Ok.ensures.count refl refl in
    ((let less = c.if-self-ge-MOST_EVENTS.false in omega arith), c.self.invariant.1, record { group = game.group; events = game.events ++ c.args.event ∷ []; behind = made.1 })

pub returns-in-Ok-clause-made : goal.returns-in-Ok-clause-made
returns-in-Ok-clause-made g c = λ group es b.
    let b1 = subst (IsAfter group es) (sym c.self.view_is) b in
    let room : length es < MOST_EVENTS = (let made = b1.made in let less = c.if-self-ge-MOST_EVENTS.false in omega arith) in
    makes_one group es _ b1 c.world_by_events.ensures.one_more c.what_is_forged.ensures.answered _ c.args.event c.in-Ok.reply room c.in-Ok.ensures.refused c.in-Ok.ensures.answers c.in-Ok.ensures.count refl refl

pub returns-in-Err-Forged-clause-made : goal.returns-in-Err-Forged-clause-made
returns-in-Err-Forged-clause-made g c = λ group es b.
    let b1 = subst (IsAfter group es) (sym c.self.view_is) b in
    let room : length es < MOST_EVENTS = (let made = b1.made in let less = c.if-self-ge-MOST_EVENTS.false in omega arith) in
    stops_forged group es _ b1 c.what_is_forged.ensures.said c.args.event c.in-Err-Forged.place room
    (subst (λ f. IsSaidTo c.self.inside.world c.args.event (Err f)) c.in-Err-Forged.field-0-is c.in-Err-Forged.ensures.refused)

pub returns-then-self-ge-MOST_EVENTS-clause-made : goal.returns-then-self-ge-MOST_EVENTS-clause-made
returns-then-self-ge-MOST_EVENTS-clause-made g c = grind (arith, common_steps)
