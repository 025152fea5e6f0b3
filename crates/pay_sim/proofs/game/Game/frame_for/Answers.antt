use Rattle.std.proofs.Common.{sym, subst, ap, Some, ◌∙◌, arith, rules}
use Rattle.std.proofs.lemmas.Grind.{common_steps}
use Rattle.std.proofs.lemmas.Result.{IfOk-weaker}
use Rattle.pay_sim.specs.Playing.{IsAfter}
use Rattle.pay_sim.proofs.Knowing.{no_frame_for, frame_for_one}
use Rattle.pay_sim.proofs.game.Game.frame_for.Goals as goal

pub returns-in-Some : goal.returns-in-Some
returns-in-Some g c = IfOk-weaker c.frame_sent.result _ _ (λ frame h group es b.
    let b1 = subst (IsAfter group es) (sym c.self.view_is) b in
    h group es b ∙ frame_for_one group es _ b1 c.member.ensures.limits c.args.from c.args.to c.args.number _ (sym c.in-Some.ensures.value)) c.frame_sent.ensures

pub returns-in-None : goal.returns-in-None
returns-in-None g c = λ group es b.
    let b1 = subst (IsAfter group es) (sym c.self.view_is) b in
    ap Some (first_of (cc, search rules, grind (arith, common_steps))) ∙ no_frame_for group es _ b1 c.member.ensures.limits c.args.from c.args.to c.args.number (sym c.in-None.ensures.value)
