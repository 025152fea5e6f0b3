-- The form of an entry of a member's history in a log. Numbers are big-endian.
use Rattle.std.specs.Prelude.{ℕ, ◌+◌, ◌*◌, Bool, true, false, List, ◌∷◌, ◌++◌, length}
use Rattle.std.specs.Int.{w16, w32, w64, to_be_bytes}
use Rattle.pay_frame.specs.Frame.{BodyFields, FrameFields, code_of}
use Rattle.pay_member.specs.declared.event.HistoryEntry.{HistoryEntry}
use Rattle.pay_member.specs.declared.event.Event.{Event}
use Rattle.pay_member.specs.declared.event.Event.TheVariants.{Ask, Taken, Query}
use Rattle.pay_member.specs.declared.event.Reply.{Reply}
use Rattle.pay_member.specs.declared.event.Reply.TheVariants.{Asked, Took, Told}
use Rattle.pay_member.specs.declared.event.Took as took

-- An entry in the form of a log: with the id under which its owner submitted it, if it is a
-- submitted value.
pub record LoggedFields : Type 0 where
  pub entry : HistoryEntry
  pub id : ℕ

abbrev pub kind_code : Event → ℕ
kind_code (Ask v) = 1
kind_code (Taken c) = 4
kind_code (Query a) = 3

abbrev pub bit_of : Bool → ℕ
bit_of false = 0
bit_of true = 1

-- whether a frame made the member ECHO, READY and deliver, each a bit, the lowest first
abbrev pub known_bits : took.Took → ℕ
known_bits t = bit_of t.echo + 2 * bit_of t.ready + 4 * bit_of t.deliver

abbrev pub reply_bytes : Reply → List ℕ
reply_bytes (Asked seq) = to_be_bytes w32 seq
reply_bytes (Took t) = known_bits t ∷ to_be_bytes w32 t.settled
reply_bytes (Told t) =
    to_be_bytes w64 t.balance ++ to_be_bytes w32 t.front ++ to_be_bytes w32 t.listed

-- a kind, an owner, a seq, and a value after its length
abbrev pub body_bytes : BodyFields → List ℕ
body_bytes b =
    code_of b.kind ∷ (to_be_bytes w16 b.owner ++ to_be_bytes w32 b.seq
    ++ to_be_bytes w16 (length b.value) ++ b.value)

-- A frame's sender, number and body. Its receiver is the log's member, and its tag follows from all
-- these and the key that both share.
abbrev pub frame_part : FrameFields → List ℕ
frame_part f = to_be_bytes w16 f.from ++ to_be_bytes w64 f.number ++ body_bytes f.body

-- The bytes after the stamp. A submitted value has its id, its reply, its length and its bytes. A
-- frame has its reply and its part. A query has its account and its reply.
abbrev pub record_fields : Event → ℕ → Reply → List ℕ
record_fields (Ask v) id reply =
    to_be_bytes w64 id ++ reply_bytes reply ++ to_be_bytes w16 (length v) ++ v
record_fields (Taken c) id reply = reply_bytes reply ++ frame_part c.frame
record_fields (Query a) id reply = to_be_bytes w16 a ++ reply_bytes reply

-- the kind of an entry, its stamp, and its fields
unfoldable pub record_of : LoggedFields → List ℕ
record_of l =
    (kind_code l.entry.event ∷ to_be_bytes w16 l.entry.stamp)
    ++ record_fields l.entry.event l.id l.entry.reply
