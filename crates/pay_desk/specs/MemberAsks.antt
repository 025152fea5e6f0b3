-- What a desk's call broadcasts at a member: the law of a teller, for a member.
use Rattle.std.specs.Prelude.{◌≡◌, ℕ, List, [], ◌∷◌, ◌++◌, Result, Ok, Err}
use Rattle.std.proofs.Common.{sym, ap, ◌∙◌, append-nil}
use Rattle.std.proofs.lemmas.List.Elements.{filter_map-append}
use Rattle.pay_member.specs.declared.event.HistoryEntry.{HistoryEntry}
use Rattle.pay_member.specs.declared.event.Event.TheVariants as event
use Rattle.pay_member.specs.declared.fault.QueryFault.{QueryFault}
use Rattle.pay_member.specs.declared.event.Reply.TheVariants as reply
use Rattle.pay_member.specs.declared.event.Told.{Told}
use Rattle.pay_member.specs.Member.{MemberFields, with_entry}
use Rattle.pay_desk.specs.declared.fault.TellerFault.{TellerFault}
use Rattle.pay_desk.specs.Calls.{Exchange, Ask, Query, Read, Withhold, values_asked_by}
use Rattle.pay_desk.specs.OneMember.{MemberSays, after_asking, after_query, value_asked}
use Rattle.pay_desk.specs.OneMember.{values_asked}

one_more : (m : MemberFields) (e : HistoryEntry)
    → values_asked (with_entry m e).history ≡ values_asked m.history ++ values_asked (e ∷ [])
unfolding values_asked
one_more m e = filter_map-append (λ e. value_asked e.event) m.history (e ∷ [])

by_ask : (stamp : ℕ) (m : MemberFields) (id : ℕ) (value : List ℕ) (answer : Result ℕ TellerFault)
    → values_asked (after_asking stamp m value answer).history
    ≡ values_asked m.history ++ values_asked_by (Ask id value answer)
unfolding values_asked
by_ask stamp m id value (Ok seq) =
    one_more m (record { stamp = stamp; event = event.Ask value; reply = reply.Asked seq })
by_ask stamp m id value (Err fault) = sym (append-nil (values_asked m.history))

by_query : (stamp : ℕ) (m : MemberFields) (account : ℕ) (answer : Result Told QueryFault)
    → values_asked (after_query stamp m account answer).history ≡ values_asked m.history ++ []
unfolding values_asked
by_query stamp m account (Ok told) =
    one_more m (record { stamp = stamp; event = event.Query account; reply = reply.Told told })
by_query stamp m account (Err fault) = sym (append-nil (values_asked m.history))

-- nothing is broadcast except what is submitted and gets a number
pub member_asks :
    (stamp : ℕ) (old new : MemberFields) (said : Exchange) → MemberSays stamp old said new
    → values_asked new.history ≡ values_asked old.history ++ values_asked_by said
member_asks stamp old new (Ask id value answer) says =
    ap (λ (m : MemberFields). values_asked m.history) says.1 ∙ by_ask stamp old id value answer
member_asks stamp old new (Query account answer) says =
    ap (λ (m : MemberFields). values_asked m.history) says.1 ∙ by_query stamp old account answer
member_asks stamp old new (Read reading) says =
    ap (λ (m : MemberFields). values_asked m.history) says.1
    ∙ sym (append-nil (values_asked old.history))
member_asks stamp old new (Withhold reading) says = absurd says
