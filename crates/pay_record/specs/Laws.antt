-- Statements about records. Each is proved as a public law.
use Rattle.std.specs.List.{All, flat_map}
use Rattle.std.specs.Prelude.{◌≡◌, ◌⊎◌, ℕ, List, ◌∷◌, ◌++◌, length, Result, Ok, Err}
use Rattle.pay_link.specs.Genesis.{GenesisFields, IsGenesis}
use Rattle.pay_link.specs.Keys.{KeyFields}
use Rattle.pay_member.specs.declared.event.HistoryEntry.{HistoryEntry}
use Rattle.pay_member.specs.Legal.{Legal}
use Rattle.pay_record.specs.declared.reading.RecordFault.{RecordFault}
use Rattle.pay_record.specs.declared.reading.RecordFault.TheVariants.{Memory}
use Rattle.pay_record.specs.Loggable.{FitsRecord, IsLoggable, IsTyped, IsReadAs, StandsIn}
use Rattle.pay_record.specs.Records.{LoggedFields, record_of}

-- At most one record stands at the front of bytes, and the bytes after it are determined.
abbrev pub OneRecord : Type 0
OneRecord =
    (k : KeyFields) (bytes : List ℕ) (l other : LoggedFields)
    → (stands : StandsIn k bytes l) → (others : StandsIn k bytes other)
    → (l ≡ other) × (stands.rest ≡ others.rest)

-- What was written is read again, whatever stands after it, except if memory runs out.
abbrev pub WrittenIsRead : Type 0
WrittenIsRead =
    (k : KeyFields) (l : LoggedFields) (rest : List ℕ)
    (answer : Result (HistoryEntry × ℕ × ℕ) RecordFault)
    → IsLoggable k l → IsReadAs k (record_of l ++ rest) answer
    → (answer ≡ Ok (l.entry, l.id, length (record_of l))) ⊎ (answer ≡ Err Memory)

-- A record has room for each entry of a history that a member can have.
abbrev pub LegalHasRoom : Type 0
LegalHasRoom =
    (g : GenesisFields) (k : KeyFields) (before : List HistoryEntry) (e : HistoryEntry)
    (after : List HistoryEntry)
    → Legal g k (before ++ e ∷ after) → FitsRecord e.event

-- Lists of entries with equal records are equal.
abbrev pub OneList : Type 0
OneList =
    (k : KeyFields) (one other : List LoggedFields) → All (IsLoggable k) one
    → All (IsLoggable k) other
    → flat_map record_of one ≡ flat_map record_of other → one ≡ other

-- The record of each entry of a history that a member can have says everything about it to that
-- member.
abbrev pub LegalIsLoggable : Type 0
LegalIsLoggable =
    (g : GenesisFields) (k : KeyFields) (before : List HistoryEntry) (e : HistoryEntry)
    (after : List HistoryEntry)
    (id : ℕ) → IsGenesis g → Legal g k (before ++ e ∷ after)
    → IsTyped (record { entry = e; id = id })
    → IsLoggable k (record { entry = e; id = id })
