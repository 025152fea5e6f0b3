-- What the bytes that a member receives are to it, and what it answers to them.
use Rattle.std.specs.Prelude.{◌≡◌, ◌≢◌, ℕ, ◌==◌, Bool, true, false, if◌then◌else◌, List, Option}
use Rattle.std.specs.Prelude.{Some, None, option_and_then, option_map, Result, Ok, Err, ⊤}
use Rattle.pay_frame.specs.declared.reading.FrameFault.{FrameFault}
use Rattle.pay_frame.specs.declared.body.Kind.{Kind}
use Rattle.pay_frame.specs.declared.body.Kind.TheVariants as kind
use Rattle.pay_frame.specs.Frame.{FrameFields, frame_bytes}
use Rattle.pay_frame.specs.OneFrame.{IsOneReading, one_frame}
use Rattle.pay_channel.specs.History as channel
use Rattle.pay_channel.specs.Taken.{next}
use Rattle.pay_link.specs.Genesis.{GenesisFields}
use Rattle.pay_link.specs.Keys.{KeyFields, IsPeer, key_for}
use Rattle.pay_link.specs.Checked.{CheckedFields}
use Rattle.pay_link.specs.Fronts.{turn}
use Rattle.pay_link.specs.Opening.{OpenedFields, judgement}
use Rattle.pay_link.specs.Sealing.{want_frame}
use Rattle.pay_link.specs.declared.opened.LinkFault.{LinkFault}
use Rattle.pay_member.specs.declared.event.Event.TheVariants.{Taken}
use Rattle.pay_member.specs.declared.bringing.Brought.{Brought}
use Rattle.pay_member.specs.declared.bringing.Incoming.{Incoming}
use Rattle.pay_member.specs.declared.bringing.Incoming.TheVariants.{Want, Message}
use Rattle.pay_member.specs.declared.ledger.Received.{Received}
use Rattle.pay_member.specs.declared.bringing.Outcome.{Outcome}
use Rattle.pay_member.specs.declared.bringing.Outcome.TheVariants.{Took, Wanted, Frame, Link}
use Rattle.pay_member.specs.declared.bringing.Outcome.TheVariants.{WrongKey}
use Rattle.pay_member.specs.declared.event.Reply.TheVariants as reply
use Rattle.pay_member.specs.Reply.{took_by}
use Rattle.pay_member.specs.Member.{MemberFields, with_entry}

abbrev pub is_want : Kind → Bool
is_want kind.Send = false
is_want kind.Echo = false
is_want kind.Ready = false
is_want kind.Want = true

-- ---- before the history is looked at

-- what an authenticated frame is: a WANT, or a message
abbrev pub incoming : OpenedFields → Incoming
incoming opened =
    if is_want opened.frame.body.kind
    then Want opened.frame.from opened.frame.number
    else Message opened

abbrev pub incoming_of : Result OpenedFields LinkFault → Result Incoming LinkFault
incoming_of (Ok opened) = Ok (incoming opened)
incoming_of (Err fault) = Err fault

-- what a frame is to the member with these keys, unless it is refused
unfoldable pub incoming_at : KeyFields → FrameFields → Result Incoming LinkFault
incoming_at k f = incoming_of (judgement k f)

-- all of this frame, which a peer sent
abbrev pub IsOfPeer : KeyFields → FrameFields → Incoming → Type 0
IsOfPeer k f (Want from number) = IsPeer k from × (from ≡ f.from)
IsOfPeer k f (Message opened) =
    IsPeer k f.from × (opened.frame ≡ f) × (opened.frame.body.kind ≢ kind.Want)

-- ---- computed

abbrev pub unless_want : Result OpenedFields LinkFault → Option FrameFields
unless_want (Ok opened) = if is_want opened.frame.body.kind then None else Some opened.frame
unless_want (Err fault) = None

-- the frame that bytes are, if these keys authenticate it and it is no WANT
unfoldable pub opened_in : KeyFields → List ℕ → Option FrameFields
opened_in k bytes = option_and_then (λ f. unless_want (judgement k f)) (one_frame bytes)

-- what a frame is to a channel, if its number is the next one from its sender
abbrev pub event_of_frame : List channel.Event → FrameFields → Option channel.Event
event_of_frame before f =
    if f.number == next f.from before then Some (channel.From f.from f.body) else None

-- what bytes are to the channel of the member with these keys, after these events: nothing, or one
-- event
unfoldable pub event_in : KeyFields → List channel.Event → List ℕ → Option channel.Event
event_in k before bytes = option_and_then (event_of_frame before) (opened_in k bytes)

-- ---- the answer

-- the answer to an authenticated frame: it is accepted if its number is the next one
abbrev pub outcome_of_judged :
    GenesisFields → ℕ → List channel.Event → FrameFields → Result ⊤ LinkFault → Outcome
outcome_of_judged g own before f (Ok _) = Took (took_by g own before (channel.From f.from f.body))
outcome_of_judged g own before f (Err fault) = Link fault

unfoldable pub answer_to : GenesisFields → ℕ → List channel.Event → FrameFields → Outcome
answer_to g own before f = outcome_of_judged g own before f (turn (next f.from before) f.number)

-- the answer to a frame
abbrev pub outcome_to :
    GenesisFields → ℕ → List channel.Event → Result Incoming LinkFault → Outcome
outcome_to g own before (Ok (Message opened)) = answer_to g own before opened.frame
outcome_to g own before (Ok (Want from number)) = Wanted from number
outcome_to g own before (Err fault) = Link fault

-- the answer to what bytes read as
unfoldable pub outcome_of :
    GenesisFields → KeyFields → List channel.Event → Result FrameFields FrameFault → Outcome
outcome_of g k before (Ok f) = outcome_to g k.own before (incoming_at k f)
outcome_of g k before (Err fault) = Frame fault

-- The answer to bytes, according to their only reading.
pub record IsOutcome (g : GenesisFields) (k : KeyFields) (before : List channel.Event)
    (bytes : List ℕ) (outcome : Outcome) : Type 0 where
  pub reading : Result FrameFields FrameFault
  pub reads : IsOneReading bytes reading
  pub is : outcome ≡ outcome_of g k before reading

-- the answer if nothing is handed to the member
abbrev pub answered_at_once : Outcome → Received
answered_at_once outcome = record { outcome = outcome; next = None }

-- the answer with the WANT to the sender for the number that is next, if there is one
abbrev pub with_want : KeyFields → ℕ → Received → Brought
with_want k from r = record {
  outcome = r.outcome;
  want = option_map (λ number. frame_bytes (want_frame k from number)) r.next;
}

-- the WANT that goes with the answer to an authenticated frame that is no WANT: it requests what is
-- next after these events
abbrev pub want_for : KeyFields → List channel.Event → FrameFields → List ℕ
want_for k after f = frame_bytes (want_frame k f.from (next f.from after))

unfoldable pub want_after : KeyFields → List channel.Event → List ℕ → Option (List ℕ)
want_after k after bytes = option_map (want_for k after) (opened_in k bytes)

-- ---- the member afterwards

-- an authenticated frame with the key that authenticated it
abbrev pub checked_with : KeyFields → FrameFields → CheckedFields
checked_with k f = record { frame = f; key = key_for k f.from }

-- the member with one more entry if the frame was accepted, and otherwise unchanged
abbrev pub with_taken : MemberFields → ℕ → CheckedFields → Outcome → MemberFields
with_taken m stamp c (Took took) =
    with_entry m (record { stamp = stamp; event = Taken c; reply = reply.Took took })
with_taken m stamp c (Wanted from number) = m
with_taken m stamp c (Frame fault) = m
with_taken m stamp c (Link fault) = m
with_taken m stamp c WrongKey = m

-- the member according to the frame that bytes are authenticated as
abbrev pub with_brought : MemberFields → ℕ → Outcome → Option FrameFields → MemberFields
with_brought m stamp outcome (Some f) = with_taken m stamp (checked_with m.keys f) outcome
with_brought m stamp outcome None = m
