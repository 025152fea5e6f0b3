-- What a start finds in a log that a crash left: all that was on the disk.
use Rattle.std.specs.List.{All, flat_map}
use Rattle.std.specs.Prelude.{◌≡◌, ◌⊎◌, ℕ, List, ◌++◌}
use Rattle.pay_link.specs.Genesis.{GenesisFields}
use Rattle.pay_link.specs.Keys.{KeyFields}
use Rattle.pay_log.specs.declared.log.Log.{Log}
use Rattle.pay_log.specs.Headers.{header_bytes}
use Rattle.pay_log.specs.Logs.{IsStray, IsSynced}
use Rattle.pay_record.specs.Identity.{header_of, log_key_of}
use Rattle.pay_record.specs.Loggable.{IsLoggable}
use Rattle.pay_record.specs.Records.{LoggedFields, record_of}
use Rattle.pay_record.specs.Restarting.{HasLogged}
use Rattle.pay_record.specs.Resuming.{IsLogOf, ResumedFields}

-- The log of this group's member is on the disk, with the records of just these entries.
pub record HasOnDisk {D : Type 0} (is_known : D → Type 0) (seen : D → List ℕ)
    (may_leave : D → List ℕ → Type 0)
    (g : GenesisFields) (k : KeyFields) (log : Log D) (logged : List LoggedFields) : Type 0 where
  pub key : log.key ≡ log_key_of k
  pub loggable : All (IsLoggable k) logged
  pub ps : List (List ℕ)
  pub settled : IsSynced is_known seen may_leave log (header_bytes (header_of g k)) ps
  pub records : flat_map record_of logged ≡ flat_map (λ p. p) ps

-- Whatever entries the log had on the disk, it has further ones too, if these bytes are their
-- records.
abbrev pub AppendsOnDisk : {D : Type 0} → (D → Type 0) → (D → List ℕ) → (D → List ℕ → Type 0)
    → Log D → Log D → List ℕ → Type 0
AppendsOnDisk is_known seen may_leave old new records =
    (g : GenesisFields) (k : KeyFields) (logged further : List LoggedFields)
    → HasOnDisk is_known seen may_leave g k old logged
    → All (IsLoggable k) further → flat_map record_of further ≡ records
    → HasOnDisk is_known seen may_leave g k new (logged ++ further)

-- In a log of this member a checksum fits bytes that nobody wrote.
pub record HasStray (g : GenesisFields) (k : KeyFields) (file : List ℕ) : Type 0 where
  pub ps : List (List ℕ)
  pub p : List ℕ
  pub is : IsStray (log_key_of k) (header_bytes (header_of g k)) ps p file

-- A start that reads this file has just these entries and their ids.
abbrev pub StartsAs : GenesisFields → KeyFields → List LoggedFields → List ℕ → Type 0
StartsAs g k logged file =
    (r : ResumedFields) (qs : List (List ℕ))
    → IsLogOf k (log_key_of k) (header_bytes (header_of g k)) file r qs
    → HasLogged logged r.member r.ids

-- The entries and ids of a start that reads this file begin with these, or a checksum fits by
-- chance.
abbrev pub StartsWith : GenesisFields → KeyFields → List LoggedFields → List ℕ → Type 0
StartsWith g k logged file =
    (r : ResumedFields) (qs : List (List ℕ))
    → IsLogOf k (log_key_of k) (header_bytes (header_of g k)) file r qs
    → ((more : List LoggedFields) × HasLogged (logged ++ more) r.member r.ids)
    ⊎ HasStray g k file

-- A start that begins with more entries begins with fewer of them.
abbrev pub ShorterStartsToo : Type 0
ShorterStartsToo =
    (g : GenesisFields) (k : KeyFields) (logged more : List LoggedFields) (file : List ℕ)
    → StartsWith g k (logged ++ more) file → StartsWith g k logged file
