use Rattle.std.proofs.Common.{◌≡◌, Err, sym, subst, rules, arith}
use Rattle.std.proofs.lemmas.Grind.{common_steps}
use Rattle.pay_world.specs.World.{WorldFields}
use Rattle.pay_world.specs.Answer.{AnswersEvent}
use Rattle.pay_world.proofs.Passing.{grown_prefix}
use Rattle.pay_world.proofs.world.World.apply.Goals as goal

pub returns-in_err-reply-clause-refused : goal.returns-in_err-reply-clause-refused
returns-in_err-reply-clause-refused g c =
    let same : c.from_residual.result ≡ Err c.in_err-reply.field-0.0 = search rules in
    rw same c.in_err-reply.ensures.refused

pub returns-in_err-reply-clause-memory : goal.returns-in_err-reply-clause-memory
returns-in_err-reply-clause-memory g c =
    let same : c.from_residual.result ≡ Err c.in_err-reply.field-0.0 = search rules in
    rw same c.in_err-reply.ensures.memory

pub returns-clause-refused : goal.returns-clause-refused
returns-clause-refused g c = c.in_ok-reply.ensures.refused

pub returns-clause-memory : goal.returns-clause-memory
returns-clause-memory g c = c.in_ok-reply.ensures.memory

pub returns-clause-answers : goal.returns-clause-answers
returns-clause-answers g c =
    let w = c.args.self.now in
    let was = subst (λ (x : WorldFields). AnswersEvent w x c.args.event c.in_ok-reply.reply) (sym c.self.view_is) c.in_ok-reply.ensures.answers in
    record { genesis = was.genesis; liars = was.liars; said = was.said; here = was.here; others = was.others; histories = was.histories }

pub returns-clause-prefix : goal.returns-clause-prefix
returns-clause-prefix g c =
    let w = c.args.self.now in
    let was = subst (λ (x : WorldFields). AnswersEvent w x c.args.event c.in_ok-reply.reply) (sym c.self.view_is) c.in_ok-reply.ensures.answers in
    λ i. grown_prefix _ _ _ (was.histories i)

pub invariant_of-self : goal.invariant_of-self
invariant_of-self g c = grind (arith, common_steps)

pub returns-clause-count : goal.returns-clause-count
returns-clause-count g c = grind (arith, common_steps)
