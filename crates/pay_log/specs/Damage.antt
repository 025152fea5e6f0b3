-- A record block after a log's end. A crash leaves none except by chance, so the log is damaged.
use Rattle.std.specs.Prelude.{◌≡◌, ℕ, ◌<◌, ◌^◌, List, ◌++◌, drop, length}
use Rattle.pay_log.specs.Chunks.{BeginsWith, chunk_of, IsShort}
use Rattle.pay_log.specs.Logs.{IsLog, end_place, log_bytes}

-- A record block stands at index `at` of these bytes, whatever place it was made for.
pub record IsChunkAt (key bytes : List ℕ) (at : ℕ) : Type 0 where
  pub payload : List ℕ
  pub short : IsShort payload
  pub made_for : ℕ
  pub within : made_for < 2 ^ 64
  pub stands : BeginsWith (drop at bytes) (chunk_of key made_for payload)

-- A record block stands somewhere in these bytes.
pub record HasChunkIn (key bytes : List ℕ) : Type 0 where
  pub at : ℕ
  pub chunk : IsChunkAt key bytes at

-- The file is the log of `count` record blocks, and another block stands after its end.
pub record IsDamaged (key header file : List ℕ) (count : ℕ) : Type 0 where
  pub ps : List (List ℕ)
  pub log : IsLog key header file ps
  pub counted : length ps ≡ count
  pub has : HasChunkIn key log.rest

-- Bytes that nobody wrote have a checksum that fits: after the log of these payloads stands a
-- record block that isn't the written one at its place.
pub record IsByChance (key header : List ℕ) (ps : List (List ℕ)) (p file : List ℕ)
    : Type 0 where
  pub tail : List ℕ
  pub is : file ≡ log_bytes key header ps ++ tail
  pub at : ℕ
  pub chunk : IsChunkAt key tail at
  pub unwritten : at ≡ 0 → chunk.made_for ≡ end_place ps → chunk.payload ≡ p → ⊥
