use Rattle.std.proofs.Common.{Some, None, ap, sym, ◌∙◌, subst}
use Rattle.pay_sim.specs.Playing.{IsAfter}
use Rattle.pay_sim.proofs.Knowing.{sent_to_itself, sent_by_none, sent_by}
use Rattle.pay_sim.proofs.game.Game.frame_sent.Goals as goal

pub returns-then-from-to : goal.returns-then-from-to
returns-then-from-to g c = λ group es b. sent_to_itself group es c.args.from c.args.to c.args.number c.if-from-to.true

pub returns-in_default : goal.returns-in_default
returns-in_default g c = λ group es b.
    let b1 = subst (IsAfter group es) (sym c.self.view_is) b in
    sent_by_none group es _ b1 c.member.ensures.limits c.args.from c.args.to c.args.number (sym c.in_default.ensures.value)

pub returns-in_ok-test_frame-in-Some-sent : goal.returns-in_ok-test_frame-in-Some-sent
returns-in_ok-test_frame-in-Some-sent g c = λ group es b.
    let b1 = subst (IsAfter group es) (sym c.self.view_is) b in
    ap Some c.in_ok-test_frame-in-Some-sent.ensures
    ∙ sent_by group es _ b1 c.member.ensures.limits c.args.from c.args.to c.args.number c.in-Some.sender.now (Some c.in-Some-sent.body.now) (sym c.in-Some.ensures.value) c.if-from-to.false c.in-Some-sent.ensures

pub returns-in-None : goal.returns-in-None
returns-in-None g c = λ group es b.
    let b1 = subst (IsAfter group es) (sym c.self.view_is) b in
    sent_by group es _ b1 c.member.ensures.limits c.args.from c.args.to c.args.number c.in-Some.sender.now None (sym c.in-Some.ensures.value) c.if-from-to.false c.in-None.ensures
