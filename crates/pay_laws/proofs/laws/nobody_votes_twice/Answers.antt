use Rattle.std.proofs.Common.{Contains, sym, subst}
use Rattle.std.proofs.lemmas.List.Elements.{Contains-append_left}
use Rattle.pay_frame.specs.declared.body.Kind.TheVariants.{Send}
use Rattle.pay_channel.specs.Asked.{asked_values}
use Rattle.pay_channel.specs.History.{body_of, out}
use Rattle.pay_channel.specs.Taken.{taken_bodies}
use Rattle.pay_world.specs.Setting.{group_at}
use Rattle.pay_world.specs.Actions.{history_by}
use Rattle.pay_laws.specs.Once.{HasVotesOnce}
use Rattle.pay_laws.proofs.Once.{one_at_most, one_send, once_in_prefix}
use Rattle.pay_member.specs.declared.ledger.Lie.{Lie}
use Rattle.pay_member.specs.Lies.{HasTold}
use Rattle.pay_laws.proofs.NoLies.{no_lie}
use Rattle.pay_laws.proofs.laws.nobody_votes_twice.Goals as goal

pub returns-clause-sent : goal.returns-clause-sent
returns-clause-sent c = λ g history. record {
  send = λ a s. one_send g.own a s (out g history) (asked_values history) (c.sends_are_asks.ensures.one g history s) (c.sends_are_asks.ensures.sends g history);
  echo = λ a s. one_at_most _ (out g history) _ _ (c.what_is_sent.ensures.echo g history a s);
  ready = λ a s. one_at_most _ (out g history) _ _ (c.what_is_sent.ensures.ready g history a s);
}

pub returns-clause-taken : goal.returns-clause-taken
returns-clause-taken c = λ w steps i j few fair i_correct j_correct.
    let by = c.restart_is_no_lie.ensures w steps fair in
    subst (λ history. HasVotesOnce (taken_bodies j history)) (by.2 i)
    (once_in_prefix _ _ ((c.correct_members_stand.ensures.genuine w by.0 few by.1).authentic i j i_correct j_correct)
    (returns-clause-sent c (group_at w j) (history_by w by.0 j)))

pub returns-clause-no_lie : goal.returns-clause-no_lie
returns-clause-no_lie c = λ w steps i j few fair i_correct j_correct.
    let by = c.restart_is_no_lie.ensures w steps fair in
    let stands = c.correct_members_stand.ensures.genuine w by.0 few by.1 in
    let begins = stands.authentic i j i_correct j_correct in
    subst (λ history. (lie : Lie) → HasTold history j lie → ⊥) (by.2 i)
    (no_lie c.taken_in_order.ensures.here c.taken_in_order.ensures.grows c.taken_in_order.ensures.is_from
    (group_at w i) j (history_by w by.0 i) (stands.proper i i_correct)
    (once_in_prefix _ _ begins (returns-clause-sent c (group_at w j) (history_by w by.0 j)))
    (λ a s v there. ((c.sends_are_asks.ensures.sent (group_at w j) (history_by w by.0 j) a s v).0
    (subst (λ bodies. Contains bodies (body_of Send a s v)) (sym begins.is)
    (Contains-append_left (taken_bodies j (history_by w by.0 i)) begins.rest (body_of Send a s v) there))).0))
