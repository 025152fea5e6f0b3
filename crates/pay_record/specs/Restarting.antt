-- A member that starts again after a crash: what it wrote, and what it has.
use Rattle.std.specs.List.{All, flat_map}
use Rattle.std.specs.Prelude.{◌≡◌, ◌⊎◌, ℕ, List, ◌++◌}
use Rattle.pay_link.specs.Keys.{KeyFields}
use Rattle.pay_log.specs.Logs.{IsLog, IsStray, IsWithOrWithout}
use Rattle.pay_member.specs.Member.{MemberFields}
use Rattle.pay_record.specs.Resuming.{IsOfRecords, entries_of_logged, ids_of}
use Rattle.pay_record.specs.Loggable.{IsLoggable}
use Rattle.pay_record.specs.Records.{LoggedFields, record_of}

-- A log had acknowledged payloads with the records of some entries, and was appending a payload
-- with further records, when a crash left this file.
pub record WasWriting (k : KeyFields) (key header file : List ℕ)
    (kept further : List LoggedFields) : Type 0 where
  pub loggable : All (IsLoggable k) kept
  pub others : All (IsLoggable k) further
  pub ps : List (List ℕ)
  pub acknowledged : flat_map record_of kept ≡ flat_map (λ p. p) ps
  pub left : IsWithOrWithout key header ps (flat_map record_of further) file

-- A member's history is these entries, and the ids are those of the submitted values among them.
pub record HasLogged (logged : List LoggedFields) (m : MemberFields) (ids : List ℕ) : Type 0 where
  pub history : m.history ≡ entries_of_logged logged
  pub ids_are : ids ≡ ids_of logged

-- A member that starts again from what a crash left has all acknowledged entries, and then all of
-- those under way or none of them. Otherwise a checksum fits by chance.
abbrev pub WrittenIsResumed : Type 0
WrittenIsResumed =
    (k : KeyFields) (key header file : List ℕ) (kept further : List LoggedFields)
    (was : WasWriting k key header file kept further)
    (m : MemberFields) (ids : List ℕ) (qs : List (List ℕ))
    → IsLog key header file qs → IsOfRecords k m ids qs
    → HasLogged kept m ids ⊎ HasLogged (kept ++ further) m ids
    ⊎ IsStray key header was.ps (flat_map record_of further) file
