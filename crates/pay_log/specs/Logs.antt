-- Logs: a header, and the record blocks of payloads after it.
use Rattle.std.specs.Prelude.{◌≡◌, ◌≢◌, ◌⊎◌, ℕ, List, [], ◌∷◌, ◌++◌, None}
use Rattle.std.specs.List.{All}
use Rattle.pay_log.specs.declared.log.Log.{Log}
use Rattle.pay_log.specs.Chunks.{BeginsWith, chunks_of, last_place, IsShort, IsEnd}
use Rattle.pay_log.specs.Device.{Only}

-- the place after all record blocks of a log
abbrev pub end_place : List (List ℕ) → ℕ
end_place ps = last_place 0 ps

-- the bytes of a log
unfoldable pub log_bytes : List ℕ → List ℕ → List (List ℕ) → List ℕ
log_bytes key header ps = header ++ chunks_of key 0 ps

-- A file is the log of these payloads, with or without an end that is no record block.
pub record IsLog (key header file : List ℕ) (ps : List (List ℕ)) : Type 0 where
  pub short : All IsShort ps
  pub rest : List ℕ
  pub is : file ≡ log_bytes key header ps ++ rest
  pub ended : IsEnd key (end_place ps) rest

-- Bytes that nobody wrote have a checksum that fits: a record block of another payload stands after
-- these.
pub record IsStray (key header : List ℕ) (ps : List (List ℕ)) (p file : List ℕ)
    : Type 0 where
  pub other : List ℕ
  pub differs : other ≢ p
  pub stands : BeginsWith file (log_bytes key header (ps ++ other ∷ []))

-- A file is the log with this payload or without it, or a checksum fits by chance.
abbrev pub IsWithOrWithout : List ℕ → List ℕ → List (List ℕ) → List ℕ → List ℕ → Type 0
IsWithOrWithout key header ps p file =
    IsLog key header file ps ⊎ IsLog key header file (ps ++ p ∷ []) ⊎ IsStray key header ps p file

-- An open log: its file is the log of these payloads, and all of it is on the disk.
pub record IsSynced {D : Type 0} (is_known : D → Type 0) (seen : D → List ℕ)
    (may_leave : D → List ℕ → Type 0)
    (log : Log D) (header : List ℕ) (ps : List (List ℕ)) : Type 0 where
  pub works : log.failure ≡ None
  pub known : is_known log.device
  pub short : All IsShort ps
  pub file : seen log.device ≡ log_bytes log.key header ps
  pub place : log.place ≡ end_place ps
  pub durable : Only (seen log.device) (may_leave log.device)
