-- Entries that have records which say everything about them to the member with these keys.
use Rattle.std.specs.Prelude.{◌≡◌, ◌≤◌, ◌<◌, ◌^◌, ℕ, List, ◌++◌, length, ⊤, Result, Ok, Err}
use Rattle.std.specs.Prelude.{◌≢◌}
use Rattle.pay_frame.specs.declared.limits.TheConstants.{GREATEST_VALUE}
use Rattle.pay_frame.specs.declared.body.Kind.TheVariants.{Want}
use Rattle.pay_frame.specs.Frame.{BodyFields, IsBody}
use Rattle.pay_link.specs.Checked.{CheckedFields, IsChecked, IsFor}
use Rattle.pay_link.specs.Keys.{KeyFields}
use Rattle.pay_member.specs.declared.event.HistoryEntry.{HistoryEntry}
use Rattle.pay_member.specs.declared.event.Event.{Event}
use Rattle.pay_member.specs.declared.event.Event.TheVariants.{Ask, Taken, Query}
use Rattle.pay_member.specs.declared.event.Reply.{Reply}
use Rattle.pay_member.specs.declared.event.Reply.TheVariants.{Asked, Took, Told}
use Rattle.pay_record.specs.declared.reading.RecordFault.{RecordFault}
use Rattle.pay_record.specs.declared.reading.RecordFault.TheVariants.{Memory, NoRecord}
use Rattle.pay_record.specs.Records.{LoggedFields, body_bytes, frame_part, record_of}

-- its value has a length that a record has room for
abbrev pub FitsRecord : Event → Type 0
FitsRecord (Ask v) = length v ≤ GREATEST_VALUE
FitsRecord (Taken c) = ⊤
FitsRecord (Query a) = ⊤

-- a frame is within its limits, as every authenticated frame
abbrev pub IsWithinLimits : Event → Type 0
IsWithinLimits (Ask v) = ⊤
IsWithinLimits (Taken c) = IsChecked c
IsWithinLimits (Query a) = ⊤

-- a value that fits a frame, a frame that is for the member and has the right tag, any account
abbrev pub FitsEvent : KeyFields → Event → Type 0
FitsEvent k (Ask v) = length v ≤ GREATEST_VALUE
FitsEvent k (Taken c) = IsChecked c × IsFor k c
FitsEvent k (Query a) = a < 2 ^ 16

-- a reply of the event's own kind, and an id only with a submitted value
abbrev pub FitsReply : Event → ℕ → Reply → Type 0
FitsReply (Ask v) id (Asked seq) = (id < 2 ^ 64) × (seq < 2 ^ 32)
FitsReply (Ask v) id (Took t) = ⊥
FitsReply (Ask v) id (Told t) = ⊥
FitsReply (Taken c) id (Asked seq) = ⊥
FitsReply (Taken c) id (Took t) = (id ≡ 0) × (t.settled < 2 ^ 32)
FitsReply (Taken c) id (Told t) = ⊥
FitsReply (Query a) id (Asked seq) = ⊥
FitsReply (Query a) id (Took t) = ⊥
FitsReply (Query a) id (Told t) =
    (id ≡ 0) × (t.balance < 2 ^ 64) × (t.front < 2 ^ 32) × (t.listed < 2 ^ 32)

pub record IsLoggable (k : KeyFields) (l : LoggedFields) : Type 0 where
  pub stamp : l.entry.stamp < 2 ^ 16
  pub event : FitsEvent k l.entry.event
  pub reply : FitsReply l.entry.event l.id l.entry.reply

-- its numbers fit the types of an entry, and an id is only with a submitted value
abbrev pub IsNumbered : Reply → Type 0
IsNumbered (Asked seq) = seq < 2 ^ 32
IsNumbered (Took t) = t.settled < 2 ^ 32
IsNumbered (Told t) = (t.balance < 2 ^ 64) × (t.front < 2 ^ 32) × (t.listed < 2 ^ 32)

abbrev pub IsIdOf : Event → ℕ → Type 0
IsIdOf (Ask v) id = id < 2 ^ 64
IsIdOf (Taken c) id = id ≡ 0
IsIdOf (Query a) id = id ≡ 0

pub record IsTyped (l : LoggedFields) : Type 0 where
  pub stamp : l.entry.stamp < 2 ^ 16
  pub reply : IsNumbered l.entry.reply
  pub id : IsIdOf l.entry.event l.id

-- the record of an entry stands at the front of these bytes
pub record StandsIn (k : KeyFields) (bytes : List ℕ) (l : LoggedFields) : Type 0 where
  pub loggable : IsLoggable k l
  pub rest : List ℕ
  pub is : bytes ≡ record_of l ++ rest

-- What reading answers: the entry of the record at the front, with its id and its record's size, or
-- that there is none. A lack of memory says nothing.
abbrev pub IsReadAs : KeyFields → List ℕ → Result (HistoryEntry × ℕ × ℕ) RecordFault → Type 0
IsReadAs k bytes (Ok (entry, id, len)) =
    StandsIn k bytes (record { entry = entry; id = id })
    × (len ≡ length (record_of (record { entry = entry; id = id })))
IsReadAs k bytes (Err NoRecord) = (l : LoggedFields) → StandsIn k bytes l → ⊥
IsReadAs k bytes (Err Memory) = ⊤

-- The part of a frame that is for the member and has the right tag stands at the front.
pub record FrameStandsIn (k : KeyFields) (bytes : List ℕ) (c : CheckedFields) : Type 0 where
  pub checked : IsChecked c
  pub mine : IsFor k c
  pub rest : List ℕ
  pub is : bytes ≡ frame_part c.frame ++ rest

-- the reading of the part of a frame alone
abbrev pub IsFrameRead : KeyFields → List ℕ → Result (CheckedFields × ℕ) RecordFault → Type 0
IsFrameRead k bytes (Ok (c, size)) =
    FrameStandsIn k bytes c × (size ≡ length (frame_part c.frame))
IsFrameRead k bytes (Err NoRecord) = (c : CheckedFields) → FrameStandsIn k bytes c → ⊥
IsFrameRead k bytes (Err Memory) = ⊤

-- A body within a frame's limits, of no WANT, stands at the front.
pub record BodyStandsIn (bytes : List ℕ) (b : BodyFields) : Type 0 where
  pub limits : IsBody b
  pub kind : b.kind ≢ Want
  pub rest : List ℕ
  pub is : bytes ≡ body_bytes b ++ rest

-- the reading of a body alone
abbrev pub IsBodyRead : List ℕ → Result (BodyFields × ℕ) RecordFault → Type 0
IsBodyRead bytes (Ok (b, size)) = BodyStandsIn bytes b × (size ≡ length (body_bytes b))
IsBodyRead bytes (Err NoRecord) = (b : BodyFields) → BodyStandsIn bytes b → ⊥
IsBodyRead bytes (Err Memory) = ⊤
