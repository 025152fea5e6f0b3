-- Receipts of a node's calls, and when a history is consistent with a receipt.
use Rattle.std.specs.Prelude.{◌≡◌, ℕ, ◌+◌, ◌*◌, ◌/◌, ◌%◌, ◌==◌, ◌≤◌, Bool, true, false}
use Rattle.std.specs.Prelude.{if◌then◌else◌, List, [], ◌∷◌}
use Rattle.std.specs.Prelude.{take, length, slice_get, Option, Some, None, Result, Ok, Err}
use Rattle.pay_frame.specs.Frame.{BodyFields}
use Rattle.pay_member.specs.declared.event.Event.{Event}
use Rattle.pay_member.specs.declared.event.Event.TheVariants.{Taken}
use Rattle.pay_member.specs.declared.event.Reply.{Reply}
use Rattle.pay_member.specs.declared.event.Reply.TheVariants as reply
use Rattle.pay_member.specs.declared.event.Took.{Took}
use Rattle.pay_member.specs.declared.fault.MemberFault.{MemberFault}
use Rattle.pay_member.specs.declared.fault.MemberFault.TheVariants.{Memory, Spent, TooLong, Repeat}
use Rattle.pay_member.specs.declared.fault.MemberFault.TheVariants.{Gap, WrongKey, NoAccount}
use Rattle.pay_member.specs.declared.reading.Reading.{Reading}
use Rattle.pay_member.specs.declared.reading.Reading.TheVariants as reading
use Rattle.pay_member.specs.Events.{events}
use Rattle.pay_member.specs.Questions.{Shows}
use Rattle.pay_member.specs.Refusal.{refusal}
use Rattle.pay_member.specs.Member.{MemberFields, back_at}
use Rattle.pay_node.specs.declared.receipt.Call.{Call}
use Rattle.pay_node.specs.declared.receipt.Call.TheVariants.{Handed, Read}
use Rattle.pay_node.specs.declared.receipt.ReceiptForm.{ReceiptForm}
use Rattle.pay_node.specs.declared.receipt.ReceiptForm.TheVariants as form
use Rattle.pay_node.specs.declared.receipt.TheConstants.{LOW}

-- An answered call of a seat: how many entries the history had before it, and the call with its
-- answer. The count is the place of the call's own entry, if it has one.
pub record ReceiptFields : Type 0 where
  pub seen : ℕ
  pub call : Call

-- what followed from a frame, packed into a number: 1 stands for an ECHO, 2 for a READY, 4 for a
-- delivery
abbrev pub flags_of : Took → ℕ
flags_of took =
    (if took.echo then 1 else 0) + 2 * (if took.ready then 1 else 0)
    + 4 * (if took.deliver then 1 else 0)

-- what such a number says followed from a frame that settled this count of entries
abbrev pub took_in : ℕ → ℕ → Took
took_in flags settled = record {
  echo = flags % 2 == 1;
  ready = flags / 2 % 2 == 1;
  deliver = flags / 4 % 2 == 1;
  settled = settled;
}

-- the place that two numbers stand for
abbrev pub place_by_parts : ℕ → ℕ → ℕ
place_by_parts high low = high * LOW + low

-- the receipt that is stored in this form
abbrev pub receipt_in : ReceiptForm → ReceiptFields
receipt_in (form.Taken flags settled seen frame) =
    record { seen = seen; call = Handed (Taken frame) (Ok (reply.Took (took_in flags settled))) }
receipt_in (form.Sent high low seen body) =
    record { seen = seen; call = Read (reading.Sent (place_by_parts high low) 1 (body ∷ [])) }
receipt_in (form.Other other) =
    record { seen = other.value.seen; call = other.value.call }

-- A call was answered under a stamp when the history had `seen` entries. A reply stands there as an
-- entry, with what was handed in. A refusal is the one that the entries before require, and what
-- was read is what they show.
abbrev pub IsConsistent : MemberFields → ℕ → ℕ → Call → Type 0
IsConsistent m stamp seen (Handed event (Ok reply)) =
    slice_get m.history seen ≡ Some (record { stamp = stamp; event = event; reply = reply })
IsConsistent m stamp seen (Handed event (Err fault)) =
    (seen ≤ length m.history)
    × (refusal m.genesis m.keys (events (take seen m.history)) event ≡ Some fault)
IsConsistent m stamp seen (Read reading) =
    (seen ≤ length m.history) × Shows (back_at m seen) reading

abbrev pub has_entry : Call → Bool
has_entry (Handed event (Ok reply)) = true
has_entry (Handed event (Err fault)) = false
has_entry (Read reading) = false

-- why the event that was handed in was refused, if it was
abbrev pub fault_of_call : Call → Option MemberFault
fault_of_call (Handed event (Ok reply)) = None
fault_of_call (Handed event (Err fault)) = Some fault
fault_of_call (Read reading) = None

-- how many entries the history had after the call was answered
abbrev pub entries_after : ReceiptFields → ℕ
entries_after r = if has_entry r.call then r.seen + 1 else r.seen

-- one receipt of an answer, and none of a lack of memory
abbrev pub receipts_of : ℕ → Event → Result Reply MemberFault → List ReceiptFields
receipts_of seen event (Ok reply) = record { seen = seen; call = Handed event (Ok reply) } ∷ []
receipts_of seen event (Err Memory) = []
receipts_of seen event (Err Spent) = record { seen = seen; call = Handed event (Err Spent) } ∷ []
receipts_of seen event (Err TooLong) =
    record { seen = seen; call = Handed event (Err TooLong) } ∷ []
receipts_of seen event (Err (Repeat next)) =
    record { seen = seen; call = Handed event (Err (Repeat next)) } ∷ []
receipts_of seen event (Err (Gap next)) =
    record { seen = seen; call = Handed event (Err (Gap next)) } ∷ []
receipts_of seen event (Err WrongKey) =
    record { seen = seen; call = Handed event (Err WrongKey) } ∷ []
receipts_of seen event (Err NoAccount) =
    record { seen = seen; call = Handed event (Err NoAccount) } ∷ []

-- the receipt of a reading
abbrev pub reading_at : ℕ → Reading → ReceiptFields
reading_at seen reading = record { seen = seen; call = Read reading }

abbrev pub reading_receipt : ℕ → Reading → List ReceiptFields
reading_receipt seen reading = reading_at seen reading ∷ []

-- the receipt shows this body alone, as that of a number
abbrev pub ShowsAlone : ReceiptFields → ℕ → BodyFields → Type 0
ShowsAlone r number body = r.call ≡ Read (reading.Sent number 1 (body ∷ []))
