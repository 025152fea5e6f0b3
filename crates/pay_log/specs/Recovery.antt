-- What a log's recovery reads, and what it writes again.
use Rattle.std.specs.Prelude.{◌≡◌, ℕ, ◌+◌, List, [], ◌∷◌, ◌++◌, length, take, drop}
use Rattle.std.specs.List.{All}
use Rattle.pay_log.specs.declared.chunk.TheConstants.{HEADER_LEN}
use Rattle.pay_log.specs.declared.log.Log.{Log}
use Rattle.pay_log.specs.declared.log.Recovered.{Recovered}
use Rattle.pay_log.specs.Chunks.{BeginsWith, IsShort, IsEnd, chunk_of, chunks_of, next_place}
use Rattle.pay_log.specs.Damage.{HasChunkIn}
use Rattle.pay_log.specs.Device.{Storage}
use Rattle.pay_log.specs.Logs.{IsLog, IsSynced, end_place, log_bytes}
use Rattle.pay_log.specs.Sinks.{TakesAll}

-- The first `len` bytes are `count` record blocks, and their payloads were accepted.
pub record HasReadTo {S : Type 0} (takes : S → S → List ℕ → Type 0)
    (key bytes : List ℕ) (old new : S) (len count : ℕ) : Type 0 where
  pub ps : List (List ℕ)
  pub short : All IsShort ps
  pub is : bytes ≡ chunks_of key 0 ps ++ drop len bytes
  pub size : len ≡ length (chunks_of key 0 ps)
  pub counted : count ≡ length ps
  pub taken : TakesAll takes old new ps

-- No further record block stands after them.
pub record HasRead {S : Type 0} (takes : S → S → List ℕ → Type 0)
    (key bytes : List ℕ) (old new : S) (len count : ℕ) : Type 0 where
  pub to : HasReadTo takes key bytes old new len count
  pub ended : IsEnd key len (drop len bytes)

-- A file is the log of payloads that were accepted, in `len` bytes of record blocks. No record
-- block stands after its end.
pub record IsReadLog {S : Type 0} (takes : S → S → List ℕ → Type 0) (key header file : List ℕ)
    (old new : S) (len : ℕ) : Type 0 where
  pub ps : List (List ℕ)
  pub log : IsLog key header file ps
  pub sound : HasChunkIn key log.rest → ⊥
  pub place : len ≡ end_place ps
  pub size : HEADER_LEN + len ≡ length (log_bytes key header ps)
  pub taken : TakesAll takes old new ps

-- These bytes begin with the record blocks of payloads that were accepted, and then of one that is
-- refused because of the record of this number.
pub record HasRefused {S : Type 0} (takes : S → S → List ℕ → Type 0)
    (refuses : S → List ℕ → ℕ → Type 0) (key bytes : List ℕ) (old : S)
    (number : ℕ) : Type 0 where
  pub before : List (List ℕ)
  pub payload : List ℕ
  pub at : S
  pub stands : BeginsWith bytes (chunks_of key 0 (before ++ payload ∷ []))
  pub taken : TakesAll takes old at before
  pub refused : refuses at payload number

-- A file is a log with a payload that is refused.
pub record IsRefusedLog {S : Type 0} (takes : S → S → List ℕ → Type 0)
    (refuses : S → List ℕ → ℕ → Type 0) (key header file : List ℕ) (old : S) (number : ℕ)
    : Type 0 where
  pub headed : take HEADER_LEN file ≡ header
  pub refused : HasRefused takes refuses key (drop HEADER_LEN file) old number

-- A log of no payload yet.
pub record IsBegun {D : Type 0} (is_known : D → Type 0) (seen : D → List ℕ) (log : Log D)
    (header : List ℕ) : Type 0 where
  pub known : is_known log.device
  pub is : seen log.device ≡ header

-- A log has grown by a payload's record block, which may not be on the disk yet.
pub record IsCopied {D : Type 0} (is_known : D → Type 0) (seen : D → List ℕ) (old new : Log D)
    (payload : List ℕ) : Type 0 where
  pub key : new.key ≡ old.key
  pub works : new.failure ≡ old.failure
  pub place : new.place ≡ next_place old.place payload
  pub known : is_known old.device → is_known new.device
  pub grown : is_known old.device
      → seen new.device ≡ seen old.device ++ chunk_of old.key old.place payload

-- A file was the log of payloads that were accepted, with `r.len` bytes of record blocks. The new
-- log is synced with them.
pub record IsRecovered {D S : Type 0} (storage : Storage D) (takes : S → S → List ℕ → Type 0)
    (header file : List ℕ) (sink : S) (r : Recovered D S) : Type 0 where
  pub ps : List (List ℕ)
  pub was : IsLog r.log.key header file ps
  pub size : HEADER_LEN + r.len ≡ length (log_bytes r.log.key header ps)
  pub taken : TakesAll takes sink r.sink ps
  pub settled :
      IsSynced storage.is_known storage.seen storage.may_leave r.log header ps
