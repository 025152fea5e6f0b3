use Rattle.std.proofs.Common.{◌++◌, Option, Some, Ok, sym, ap, ◌∙◌}
use Rattle.std.specs.Option.{option_to_list}
use Rattle.pay_channel.specs.History as channel
use Rattle.pay_link.specs.Checked.{CheckedFields, bytes_of}
use Rattle.pay_member.specs.Events.{events}
use Rattle.pay_member.specs.Member.{MemberFields}
use Rattle.pay_member.specs.Bringing.{outcome_to, with_taken, with_brought}
use Rattle.pay_member.proofs.Ledgers.{on_err_by}
use Rattle.pay_member.proofs.Openings.{is_owned}
use Rattle.pay_member.proofs.Bringings.{events_taken, event_found, of_frame}
use Rattle.pay_member.proofs.Servings.{if_ok, if_ok_both}
use Rattle.pay_member.proofs.member.Member.bring_owned.Goals as goal

pub returns-clause-outcome : goal.returns-clause-outcome
returns-clause-outcome g c =
    let m = c.args.self.now in
    let is = is_owned c.one_frame_is.ensures.law c.owned_opens_again.ensures.opens_again c.owned_opens_again.ensures.one_frame m.keys c.args.owned c.taken_is_kept.ensures.0 c.requires in
    if_ok c.take_mine.result
    (λ x outcome. record { reading = Ok c.args.owned.frame; reads = is.one; is = outcome ∙ sym (ap (outcome_to m.genesis m.keys.own (events m.history)) is.comes) ∙ sym (of_frame m.genesis m.keys (events m.history) c.args.owned.frame) })
    c.take_mine.ensures.outcome

pub returns-clause-entry : goal.returns-clause-entry
returns-clause-entry g c =
    let m = c.args.self.now in
    let is = is_owned c.one_frame_is.ensures.law c.owned_opens_again.ensures.opens_again c.owned_opens_again.ensures.one_frame m.keys c.args.owned c.taken_is_kept.ensures.0 c.requires in
    if_ok c.take_mine.result
    (λ x entry. entry ∙ ap (λ (y : CheckedFields). with_taken m c.args.stamp y x) is.same ∙ sym (ap (with_brought m c.args.stamp x) is.opened))
    c.take_mine.ensures.entry

pub returns-clause-events : goal.returns-clause-events
returns-clause-events g c =
    let m = c.args.self.now in
    let is = is_owned c.one_frame_is.ensures.law c.owned_opens_again.ensures.opens_again c.owned_opens_again.ensures.one_frame m.keys c.args.owned c.taken_is_kept.ensures.0 c.requires in
    if_ok_both c.take_mine.result
    (λ x outcome entry. ap (λ (y : MemberFields). events y.history) (entry ∙ ap (with_taken m c.args.stamp c.args.owned) outcome)
    ∙ events_taken m c.args.stamp c.args.owned
    ∙ ap (λ (e : Option channel.Event). events m.history ++ option_to_list e) (event_found m.keys (events m.history) (bytes_of c.args.owned) (Some c.args.owned.frame) is.opened))
    c.take_mine.ensures.outcome c.take_mine.ensures.entry

pub returns-clause-memory : goal.returns-clause-memory
returns-clause-memory g c =
    let m = c.args.self.now in
    let is = is_owned c.one_frame_is.ensures.law c.owned_opens_again.ensures.opens_again c.owned_opens_again.ensures.one_frame m.keys c.args.owned c.taken_is_kept.ensures.0 c.requires in
    on_err_by c.take_mine.result (λ some none. some (event_found m.keys (events m.history) (bytes_of c.args.owned) (Some c.args.owned.frame) is.opened ∙ none)) c.take_mine.ensures.memory
