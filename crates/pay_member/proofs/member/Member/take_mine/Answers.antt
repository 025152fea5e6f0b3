use Rattle.std.proofs.Common.{Err, subst}
use Rattle.pay_member.specs.declared.event.Event.TheVariants.{Taken}
use Rattle.pay_member.specs.Refusal.{refusal}
use Rattle.pay_member.specs.Events.{events}
use Rattle.pay_member.proofs.Bringings.{Answers, answers_took, answers_repeat, answers_gap}
use Rattle.pay_member.proofs.member.Member.take_mine.Goals as goal

pub returns-in-Ok-clause-outcome : goal.returns-in-Ok-clause-outcome
returns-in-Ok-clause-outcome g c =
    let m = c.args.self.now in
    answers_took m.genesis m.keys (events m.history) c.args.checked c.in-Ok.took c.requires c.in-Ok.ensures.refused c.in-Ok.ensures.took

pub returns-in-Err-Repeat-clause-outcome : goal.returns-in-Err-Repeat-clause-outcome
returns-in-Err-Repeat-clause-outcome g c =
    let m = c.args.self.now in
    answers_repeat m.genesis m.keys (events m.history) c.args.checked c.in-Err-Repeat.next c.requires
    (subst (λ e. Answers (refusal m.genesis m.keys (events m.history) (Taken c.args.checked)) (Err e)) c.in-Err-Repeat.field-0-is c.in-Err-Repeat.ensures.refused)

pub returns-in-Err-Gap-clause-outcome : goal.returns-in-Err-Gap-clause-outcome
returns-in-Err-Gap-clause-outcome g c =
    let m = c.args.self.now in
    answers_gap m.genesis m.keys (events m.history) c.args.checked c.in-Err-Gap.next c.requires
    (subst (λ e. Answers (refusal m.genesis m.keys (events m.history) (Taken c.args.checked)) (Err e)) c.in-Err-Gap.field-0-is c.in-Err-Gap.ensures.refused)
