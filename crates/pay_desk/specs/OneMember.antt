-- A member as a desk's teller.
use Rattle.std.specs.Prelude.{◌≡◌, ℕ, nat_le, List, Option, Some, None, Result, Ok, Err}
use Rattle.std.specs.Prelude.{if◌then◌else◌}
use Rattle.std.specs.List.{filter_map}
use Rattle.pay_frame.specs.declared.limits.TheConstants.{SEQS}
use Rattle.pay_channel.specs.History.{asks}
use Rattle.pay_member.specs.declared.event.HistoryEntry.{HistoryEntry}
use Rattle.pay_member.specs.declared.event.Event.{Event}
use Rattle.pay_member.specs.declared.event.Event.TheVariants as event
use Rattle.pay_member.specs.declared.fault.QueryFault.{QueryFault}
use Rattle.pay_member.specs.declared.fault.QueryFault.TheVariants.{NoAccount}
use Rattle.pay_member.specs.declared.event.Reply.TheVariants as reply
use Rattle.pay_member.specs.declared.event.Told.{Told}
use Rattle.pay_member.specs.Events.{events}
use Rattle.pay_member.specs.Member.{MemberFields, with_entry}
use Rattle.pay_member.specs.Questions.{Shows, if_account}
use Rattle.pay_member.specs.Reply.{told_of}
use Rattle.pay_desk.specs.declared.fault.TellerFault.{TellerFault}
use Rattle.pay_desk.specs.declared.fault.TellerFault.TheVariants.{Spent}
use Rattle.pay_desk.specs.Calls.{Exchange, Ask, Query, Read, Withhold}

-- the number of the next value, unless all are used
unfoldable pub number_of_next : MemberFields → Result ℕ TellerFault
number_of_next m =
    if nat_le SEQS (asks (events m.history)) then Err Spent else Ok (asks (events m.history))

-- the state of an existing account
unfoldable pub state_told : MemberFields → ℕ → Result Told QueryFault
state_told m account =
    or_no_account (if_account m account (told_of m.genesis m.keys.own (events m.history) account))
  where
    or_no_account : Option Told → Result Told QueryFault
    or_no_account (Some told) = Ok told
    or_no_account None = Err NoAccount

-- the member with an entry of what it replied, unless it refused
abbrev pub after_asking : ℕ → MemberFields → List ℕ → Result ℕ TellerFault → MemberFields
after_asking stamp m value (Ok seq) =
    with_entry m (record { stamp = stamp; event = event.Ask value; reply = reply.Asked seq })
after_asking stamp m value (Err fault) = m

abbrev pub after_query : ℕ → MemberFields → ℕ → Result Told QueryFault → MemberFields
after_query stamp m account (Ok told) =
    with_entry m (record { stamp = stamp; event = event.Query account; reply = reply.Told told })
after_query stamp m account (Err fault) = m

-- what a desk's call does to a member
abbrev pub MemberSays : ℕ → MemberFields → Exchange → MemberFields → Type 0
MemberSays stamp old (Ask id value answer) new =
    (answer ≡ number_of_next old) × (new ≡ after_asking stamp old value answer)
MemberSays stamp old (Query account answer) new =
    (answer ≡ state_told old account) × (new ≡ after_query stamp old account answer)
MemberSays stamp old (Read reading) new = Shows old reading × (new ≡ old)
MemberSays stamp old (Withhold reading) new = ⊥

abbrev pub value_asked : Event → Option (List ℕ)
value_asked (event.Ask value) = Some value
value_asked (event.Taken checked) = None
value_asked (event.Query account) = None

-- the values that its owner had it broadcast, oldest first
unfoldable pub values_asked : List HistoryEntry → List (List ℕ)
values_asked history = filter_map (λ e. value_asked e.event) history
