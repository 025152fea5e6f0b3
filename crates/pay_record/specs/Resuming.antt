-- What a member has after records were handed to it, and the ids of its submitted values.
use Rattle.std.specs.Prelude.{◌≡◌, ◌⊎◌, ℕ, ◌+◌, List, [], ◌∷◌, ◌++◌, length, map, take, drop}
use Rattle.std.specs.Prelude.{Option, Some, None}
use Rattle.std.specs.List.{All, filter_map, flat_map}
use Rattle.pay_member.specs.declared.event.Event.{Event}
use Rattle.pay_member.specs.declared.event.Event.TheVariants.{Ask, Taken, Query}
use Rattle.pay_member.specs.declared.event.HistoryEntry.{HistoryEntry}
use Rattle.pay_member.specs.Member.{MemberFields}
use Rattle.pay_member.specs.Events.{events}
use Rattle.pay_member.specs.Legal.{IsOwed}
use Rattle.pay_log.specs.declared.chunk.TheConstants.{HEADER_LEN}
use Rattle.pay_log.specs.declared.log.Log.{Log}
use Rattle.pay_log.specs.Chunks.{BeginsWith, chunks_of}
use Rattle.pay_log.specs.Device.{Storage}
use Rattle.pay_log.specs.Logs.{IsLog, IsSynced, log_bytes}
use Rattle.pay_link.specs.Keys.{KeyFields}
use Rattle.pay_record.specs.Loggable.{IsLoggable}
use Rattle.pay_record.specs.Records.{LoggedFields, record_of}

abbrev pub id_by : Event → ℕ → Option ℕ
id_by (Ask v) id = Some id
id_by (Taken c) id = None
id_by (Query a) id = None

-- the ids of the submitted values, in their order: the k-th belongs to the value with the number k
abbrev pub ids_of : List LoggedFields → List ℕ
ids_of logged = filter_map (λ l. id_by l.entry.event l.id) logged

abbrev pub entries_of_logged : List LoggedFields → List HistoryEntry
entries_of_logged logged = map (λ l. l.entry) logged

-- The member's history has grown by the entries of the records that these bytes are, and the ids by
-- those of the submitted values.
pub record HasResumed (k : KeyFields) (old new : MemberFields)
    (old_ids new_ids bytes : List ℕ) : Type 0 where
  pub more : List LoggedFields
  pub loggable : All (IsLoggable k) more
  pub grown : new ≡ record old { history = old.history ++ entries_of_logged more }
  pub ids : new_ids ≡ old_ids ++ ids_of more
  pub records : flat_map record_of more ≡ bytes

-- The state within a payload: the member has accepted a prefix of these bytes, and the rest is
-- left.
pub record IsTaking (k : KeyFields) (old new : MemberFields)
    (old_ids new_ids bytes rest : List ℕ) : Type 0 where
  pub done : List ℕ
  pub taken : HasResumed k old new old_ids new_ids done
  pub is : bytes ≡ done ++ rest

-- No record stands at the front of these bytes, or that of an entry that the member doesn't owe.
abbrev pub IsNoneOwed : KeyFields → MemberFields → List ℕ → Type 0
IsNoneOwed k m bytes =
    ((l : LoggedFields) → IsLoggable k l → BeginsWith bytes (record_of l) → ⊥)
    ⊎ ((l : LoggedFields) × IsLoggable k l × BeginsWith bytes (record_of l)
    × (IsOwed m.genesis m.keys (events m.history) l.entry → ⊥))

-- A record isn't what the member has there, after `number` entries.
pub record IsRefusedAt (k : KeyFields) (old : MemberFields) (bytes : List ℕ) (number : ℕ)
    : Type 0 where
  pub before : List LoggedFields
  pub loggable : All (IsLoggable k) before
  pub rest : List ℕ
  pub is : bytes ≡ flat_map record_of before ++ rest
  pub counted : length old.history + length before ≡ number
  pub wrong :
      IsNoneOwed k (record old { history = old.history ++ entries_of_logged before }) rest

-- A member and the ids of its submitted values are those of the records in these payloads. Each is
-- of an entry that a record says everything about.
pub record IsOfRecords (k : KeyFields) (m : MemberFields) (ids : List ℕ)
    (ps : List (List ℕ)) : Type 0 where
  pub logged : List LoggedFields
  pub loggable : All (IsLoggable k) logged
  pub history : m.history ≡ entries_of_logged logged
  pub ids_are : ids ≡ ids_of logged
  pub records : flat_map record_of logged ≡ flat_map (λ p. p) ps

-- a member with the ids of its submitted values, and the size in bytes of the record blocks in its
-- log
pub record ResumedFields : Type 0 where
  pub member : MemberFields
  pub ids : List ℕ
  pub len : ℕ

-- A file was the log of a member's records, with `r.len` bytes of record blocks.
pub record IsLogOf (k : KeyFields) (key header file : List ℕ) (r : ResumedFields)
    (ps : List (List ℕ)) : Type 0 where
  pub was : IsLog key header file ps
  pub size : HEADER_LEN + r.len ≡ length (log_bytes key header ps)
  pub records : IsOfRecords k r.member r.ids ps

-- The new log is synced with these records.
pub record IsResumed {D : Type 0} (storage : Storage D) (k : KeyFields) (header file : List ℕ)
    (r : ResumedFields) (log : Log D) : Type 0 where
  pub ps : List (List ℕ)
  pub was : IsLogOf k log.key header file r ps
  pub settled : IsSynced storage.is_known storage.seen storage.may_leave log header ps

-- In a log, after payloads that a member accepted, stands a payload with a record of this number
-- that isn't what the member has there.
pub record IsIllegalLog (k : KeyFields) (key header file : List ℕ) (old : MemberFields)
    (number : ℕ) : Type 0 where
  pub before : List (List ℕ)
  pub payload : List ℕ
  pub headed : take HEADER_LEN file ≡ header
  pub stands : BeginsWith (drop HEADER_LEN file) (chunks_of key 0 (before ++ payload ∷ []))
  pub at : MemberFields
  pub ids : List ℕ
  pub taken : HasResumed k old at [] ids (flat_map (λ p. p) before)
  pub refused : IsRefusedAt k at payload number
