-- A log that follows a member's history.
use Rattle.std.specs.Prelude.{◌≡◌, ◌≢◌, ℕ, ◌+◌, ◌-◌, ◌≤◌, List, [], ◌∷◌, ◌++◌, length, map, take}
use Rattle.std.specs.Prelude.{drop, slice_index_or}
use Rattle.std.specs.List.{flat_map}
use Rattle.pay_log.specs.declared.log.Log.{Log}
use Rattle.pay_log.specs.Logs.{IsSynced}
use Rattle.pay_member.specs.declared.event.HistoryEntry.{HistoryEntry}
use Rattle.pay_member.specs.declared.event.Reply.{Reply}
use Rattle.pay_member.specs.declared.event.Reply.TheVariants.{Asked, Took, Told}
use Rattle.pay_record.specs.Records.{LoggedFields, record_of}
use Rattle.pay_record.specs.Resuming.{entries_of_logged}

-- The contents of each file are known. Those of a real file never are, and then nothing is claimed.
abbrev pub AllKnown : {D : Type 0} → (D → Type 0) → Type 0
AllKnown {D = D} is_known = (device : D) → is_known device

-- the id that is noted under a number, or 0 if there is none
abbrev pub id_of : List ℕ → ℕ → ℕ
id_of ids seq = slice_index_or ids seq 0

-- An id is noted under a number, and the ids under other numbers are unchanged.
pub record NotesId (old : List ℕ) (seq id : ℕ) (new : List ℕ) : Type 0 where
  pub under : id_of new seq ≡ id
  pub others : (other : ℕ) → other ≢ seq → id_of new other ≡ id_of old other

-- the ids under all numbers are unchanged
abbrev pub HasSameIds : List ℕ → List ℕ → Type 0
HasSameIds old new = (seq : ℕ) → id_of new seq ≡ id_of old seq

-- the id that the owner gave the submitted value of this reply, or 0 if nobody gave one
abbrev pub id_under : List ℕ → Reply → ℕ
id_under ids (Asked seq) = id_of ids seq
id_under ids (Took t) = 0
id_under ids (Told t) = 0

abbrev pub with_id : List ℕ → HistoryEntry → LoggedFields
with_id ids e = record { entry = e; id = id_under ids e.reply }

-- the records of some entries
abbrev pub records_of : List ℕ → List HistoryEntry → List ℕ
records_of ids entries = flat_map record_of (map (with_id ids) entries)

-- A synced log, and what waits to be written after it, are together the records of these entries.
pub record IsFollowing {D : Type 0} (is_known : D → Type 0) (seen : D → List ℕ)
    (may_leave : D → List ℕ → Type 0)
    (log : Log D) (pending : List ℕ) (entries : List HistoryEntry) : Type 0 where
  pub header : List ℕ
  pub ps : List (List ℕ)
  pub settled : IsSynced is_known seen may_leave log header ps
  pub logged : List LoggedFields
  pub are : entries_of_logged logged ≡ entries
  pub records : flat_map record_of logged ≡ flat_map (λ p. p) ps ++ pending

-- A synced log and what waits are together the records of `count` entries.
pub record IsFollowingSome {D : Type 0} (is_known : D → Type 0) (seen : D → List ℕ)
    (may_leave : D → List ℕ → Type 0)
    (log : Log D) (pending : List ℕ) (count : ℕ) : Type 0 where
  pub entries : List HistoryEntry
  pub counted : length entries ≡ count
  pub follows : IsFollowing is_known seen may_leave log pending entries

-- a log, how many entries have records in it or wait, and the records that wait
pub record FollowingFields (D : Type 0) : Type 0 where
  pub log : Log D
  pub count : ℕ
  pub pending : List ℕ

-- Some entries of a history, from the first missing one on, were gathered: their records wait after
-- those that waited.
pub record HasGathered (ids : List ℕ) (history : List HistoryEntry) (count new_count : ℕ)
    (pending new_pending : List ℕ) : Type 0 where
  pub many : ℕ
  pub within : many ≤ length history - count
  pub counted : new_count ≡ count + many
  pub records : new_pending ≡ pending ++ records_of ids (take many (drop count history))

-- what is written of the bytes that wait: one record block, if any wait
abbrev pub chunk_of_pending : List ℕ → List (List ℕ)
chunk_of_pending [] = []
chunk_of_pending (b ∷ bytes) = (b ∷ bytes) ∷ []

-- All that waited is in the log, and on the disk.
pub record IsFlushed {D : Type 0} (is_known : D → Type 0) (seen : D → List ℕ)
    (may_leave : D → List ℕ → Type 0)
    (log new_log : Log D) (pending new_pending : List ℕ) : Type 0 where
  pub nothing_waits : new_pending ≡ []
  pub settled :
      (header : List ℕ) (ps : List (List ℕ)) → IsSynced is_known seen may_leave log header ps
      → IsSynced is_known seen may_leave new_log header (ps ++ chunk_of_pending pending)
