-- What a world answers to an event, and what becomes of its members.
use Rattle.std.specs.Prelude.{◌≡◌, ◌≢◌, ℕ, ◌+◌, ◌-◌, ◌^◌, min, Bool, false, not, ◌&&◌, List, []}
use Rattle.std.specs.Prelude.{◌++◌, slice_get, Option, Some, None, option_map, option_and_then}
use Rattle.std.specs.Prelude.{MatchOption, if◌then◌else◌}
use Rattle.std.specs.Option.{option_map_or, option_to_list}
use Rattle.std.specs.List.{filter_map}
use Rattle.pay_frame.specs.Frame.{FrameFields}
use Rattle.pay_channel.specs.History.{Event, asks, out}
use Rattle.pay_link.specs.Keys.{KeyFields}
use Rattle.pay_member.specs.declared.event.Event.TheVariants as entry
use Rattle.pay_member.specs.declared.fault.MemberFault.{MemberFault}
use Rattle.pay_member.specs.declared.event.Reply.TheVariants as entry_reply
use Rattle.pay_member.specs.Events.{events}
use Rattle.pay_member.specs.Refusal.{refusal}
use Rattle.pay_member.specs.Bringing.{IsOutcome, opened_in, event_in, with_brought}
use Rattle.pay_member.specs.Member.{MemberFields, with_entry}
use Rattle.pay_world.specs.declared.event.WorldEvent.{WorldEvent}
use Rattle.pay_world.specs.declared.event.WorldEvent.TheVariants.{Ask, Bring}
use Rattle.pay_world.specs.declared.event.WorldFault.{WorldFault}
use Rattle.pay_world.specs.declared.event.WorldFault.TheVariants.{Forged}
use Rattle.pay_world.specs.declared.event.WorldReply.{WorldReply}
use Rattle.pay_world.specs.declared.event.WorldReply.TheVariants.{Asked, Refused, Brought, Ignored}
use Rattle.pay_world.specs.Actions.{Action, Asks, Brings, adds}
use Rattle.pay_world.specs.Setting.{group_at, is_correct}
use Rattle.pay_world.specs.Genuine.{is_same_body, is_forged_in}
use Rattle.pay_world.specs.World.{WorldFields, setting_in, member_in, history_in, keys_in}

-- the member that an event happens to
abbrev pub receiver : WorldEvent → ℕ
receiver (Ask i v) = i
receiver (Bring i bytes) = i

-- ---- events as actions

-- an authenticated frame at member i
abbrev pub brought_to : ℕ → FrameFields → Action
brought_to i f = Brings i f.from f.number f.body

-- what an event is to the member with these keys: bytes are an action exactly if the member
-- authenticates them
abbrev pub action_with : KeyFields → WorldEvent → Option Action
action_with k (Ask i v) = Some (Asks i v)
action_with k (Bring i bytes) = option_map (brought_to i) (opened_in k bytes)

-- what an event is if these are the correct members' keys
-- page: `action_of`: a submitted value is an action; received bytes are one exactly if a frame of
--   kinds 1 to 3 is authenticated
abbrev pub action_of : (ℕ → Option KeyFields) → WorldEvent → Option Action
action_of keys e = option_and_then (λ k. action_with k e) (keys (receiver e))

abbrev pub actions_of : (ℕ → Option KeyFields) → List WorldEvent → List Action
actions_of keys events = filter_map (action_of keys) events

-- Whether a frame names a correct member that didn't send its body under its number.
abbrev pub is_unsent : WorldFields → FrameFields → Bool
is_unsent w f =
    is_correct (setting_in w) f.from
    && not (is_same_body f.body
    (slice_get (out (group_at (setting_in w) f.from) (history_in w f.from)) f.number))

-- Whether an event delivers a frame that the correct member which it names didn't send.
abbrev pub is_forged_at : WorldFields → WorldEvent → Bool
is_forged_at w e =
    option_map_or (is_forged_in (setting_in w) (history_in w)) (action_of (keys_in w) e) false

-- the fault of an event with a forged frame
abbrev pub forgery : WorldFields → WorldEvent → Option WorldFault
forgery w e = if is_forged_at w e then Some (Forged w.answered) else None

-- what an event adds to the history of member i of a world
abbrev pub added_in : WorldFields → WorldEvent → ℕ → List Event
added_in w e i = option_map_or (adds (setting_in w) i (history_in w i)) (action_of (keys_in w) e) []

-- ---- the answer

-- the answer to a value of a member's own
abbrev pub answer_to_ask : Option MemberFault → ℕ → WorldReply
answer_to_ask (Some fault) number = Refused fault
answer_to_ask None number = Asked number

-- the answer to bytes that a member received: what comes of them
abbrev pub IsBroughtReply : MemberFields → List ℕ → WorldReply → Type 0
IsBroughtReply m bytes (Brought outcome) =
    IsOutcome m.genesis m.keys (events m.history) bytes outcome
IsBroughtReply m bytes (Asked number) = ⊥
IsBroughtReply m bytes (Refused fault) = ⊥
IsBroughtReply m bytes Ignored = ⊥

abbrev pub IsReplyOf : MemberFields → WorldEvent → WorldReply → Type 0
IsReplyOf m (Ask i v) reply =
    reply
    ≡ answer_to_ask (refusal m.genesis m.keys (events m.history) (entry.Ask v))
    (asks (events m.history))
IsReplyOf m (Bring i bytes) reply = IsBroughtReply m bytes reply

-- the member's own answer, if the member exists
abbrev pub IsReplyFrom : Option MemberFields → WorldEvent → WorldReply → Type 0
IsReplyFrom member e reply = MatchOption member (reply ≡ Ignored) (λ m. IsReplyOf m e reply)

abbrev pub IsReply : WorldFields → WorldEvent → WorldReply → Type 0
IsReply w e reply = IsReplyFrom (member_in w (receiver e)) e reply

-- Whether the member accepts the event, if the member exists: nothing refuses the value, or the
-- bytes are a frame with the next number.
abbrev pub IsTakenBy : WorldEvent → Option MemberFields → Type 0
IsTakenBy (Ask i v) member =
    MatchOption member ⊥ (λ m. refusal m.genesis m.keys (events m.history) (entry.Ask v) ≡ None)
IsTakenBy (Bring i bytes) member =
    MatchOption member ⊥ (λ m. event_in m.keys (events m.history) bytes ≢ None)

-- ---- what becomes of the members

abbrev pub after_ask : MemberFields → List ℕ → WorldReply → MemberFields
after_ask m v (Asked number) =
    with_entry m (record { stamp = 0; event = entry.Ask v; reply = entry_reply.Asked number })
after_ask m v (Refused fault) = m
after_ask m v (Brought outcome) = m
after_ask m v Ignored = m

abbrev pub after_bring : MemberFields → List ℕ → WorldReply → MemberFields
after_bring m bytes (Brought outcome) = with_brought m 0 outcome (opened_in m.keys bytes)
after_bring m bytes (Asked number) = m
after_bring m bytes (Refused fault) = m
after_bring m bytes Ignored = m

-- the member after its reply
abbrev pub member_after : WorldEvent → WorldReply → MemberFields → MemberFields
member_after (Ask i v) reply m = after_ask m v reply
member_after (Bring i bytes) reply m = after_bring m bytes reply

-- the member's history is longer by what these bytes make it
abbrev pub IsGrownBy : Option MemberFields → Option MemberFields → List ℕ → Type 0
IsGrownBy None new bytes = Unit {0}
IsGrownBy (Some old) None bytes = ⊥
IsGrownBy (Some old) (Some new) bytes =
    events new.history
    ≡ events old.history ++ option_to_list (event_in old.keys (events old.history) bytes)

-- The receiver replied, and its history is longer by what the event adds. The other members are
-- unchanged.
pub record AnswersEvent (old new : WorldFields) (e : WorldEvent) (reply : WorldReply) : Type 0 where
  pub genesis : new.genesis ≡ old.genesis
  pub liars : new.liars ≡ old.liars
  pub said : IsReply old e reply
  pub here :
      member_in new (receiver e) ≡ option_map (member_after e reply) (member_in old (receiver e))
  pub others : (i : ℕ) → i ≢ receiver e → member_in new i ≡ member_in old i
  pub histories : (i : ℕ) → history_in new i ≡ history_in old i ++ added_in old e i

-- one more event was answered; the count saturates
abbrev pub one_more : ℕ → ℕ
one_more answered = min (answered + 1) (2 ^ 64 - 1)
