use Rattle.std.proofs.Common.{◌<◌, length, sym, ap, ◌∙◌, subst}
use Rattle.pay_frame.specs.Frame.{FrameFields}
use Rattle.pay_channel.specs.Taken.{next}
use Rattle.pay_link.specs.Checked.{CheckedFields, IsFor}
use Rattle.pay_link.specs.Fronts.{turn}
use Rattle.pay_member.specs.Events.{events}
use Rattle.pay_member.specs.Bringing.{with_taken, answer_to}
use Rattle.pay_member.proofs.Bringings.{judged_not}
use Rattle.pay_member.proofs.Servings.{if_ok}
use Rattle.pay_member.proofs.member.Member.take_opened.Goals as goal

pub judge-requires : goal.judge-requires
judge-requires g c =
    let from = c.from.ensures.value ∙ ap (λ (x : FrameFields). x.from) c.frame-frame.ensures.value in
    subst (λ p. p < length c.args.self.now.keys.keys) (sym from) c.requires.mine.sender.0

-- ---- one that isn't the next

pub returns-in-Err-clause-outcome : goal.returns-in-Err-clause-outcome
returns-in-Err-clause-outcome g c =
    let m = c.args.self.now in
    let from = c.from.ensures.value ∙ ap (λ (x : FrameFields). x.from) c.frame-frame.ensures.value in
    let number = c.number.ensures.value ∙ ap (λ (x : FrameFields). x.number) c.frame-frame.ensures.value in
    judged_not m.genesis m.keys.own (events m.history) c.args.opened.now.frame c.in-Err.fault
    (sym (λ i. turn (next (from i) (events m.history)) (number i)) ∙ sym c.in-Err.ensures)

-- ---- the next

pub take_mine-requires : goal.take_mine-requires
take_mine-requires g c = subst (λ (x : CheckedFields). IsFor c.args.self.now.keys x) (sym c.in_ok-checked.ensures) c.requires.mine

pub returns-clause-outcome : goal.returns-clause-outcome
returns-clause-outcome g c =
    let m = c.args.self.now in
    if_ok c.take_mine.result
    (λ x outcome. outcome ∙ ap (λ (y : CheckedFields). answer_to m.genesis m.keys.own (events m.history) y.frame) c.in_ok-checked.ensures)
    c.take_mine.ensures.outcome

pub returns-clause-entry : goal.returns-clause-entry
returns-clause-entry g c =
    if_ok c.take_mine.result
    (λ x entry. entry ∙ ap (λ (y : CheckedFields). with_taken c.args.self.now c.args.stamp y x) c.in_ok-checked.ensures)
    c.take_mine.ensures.entry
