use Rattle.std.proofs.Common.{sym, subst}
use Rattle.pay_world.specs.World.{WorldFields}
use Rattle.pay_world.specs.Answer.{AnswersEvent}
use Rattle.pay_world.specs.Passing.{passing}
use Rattle.pay_world.proofs.Passing.{grown_prefix}
use Rattle.pay_world.proofs.world.World.pass.Goals as goal

pub returns-clause-answers : goal.returns-clause-answers
returns-clause-answers g c =
    let w = c.args.self.now in
    let was = subst (λ (x : WorldFields). AnswersEvent w x (passing w c.args.from c.args.to c.args.number) c.in_ok-reply.reply) (sym c.self.view_is) c.in_ok-reply.ensures.answers in
    record { genesis = was.genesis; liars = was.liars; said = was.said; here = was.here; others = was.others; histories = was.histories }

pub returns-clause-prefix : goal.returns-clause-prefix
returns-clause-prefix g c =
    let w = c.args.self.now in
    let was = subst (λ (x : WorldFields). AnswersEvent w x (passing w c.args.from c.args.to c.args.number) c.in_ok-reply.reply) (sym c.self.view_is) c.in_ok-reply.ensures.answers in
    λ i. grown_prefix _ _ _ (was.histories i)
