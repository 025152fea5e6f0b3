-- Record blocks: the beginning of each block, a payload's length in four bytes, the payload, and a
-- checksum under the log's key. The checksum covers the block's place and all of these.
use Rattle.std.specs.Prelude.{◌+◌, ◌≡◌, ◌≢◌, ◌⊎◌, ℕ, ◌≤◌, ◌<◌, take, drop, List, [], ◌∷◌, ◌++◌}
use Rattle.std.specs.Prelude.{length, slice_index}
use Rattle.std.specs.Int.{w32, from_be_bytes, to_be_bytes}
use Rattle.pay_hmac.specs.Mac.{mac}
use Rattle.pay_log.specs.Keys.{front_of, place_bytes}
use Rattle.pay_log.specs.declared.chunk.TheConstants.{BESIDE_LEN, FRONT_LEN, HEAD_LEN, MOST_PAYLOAD}

-- these bytes begin with those
pub record BeginsWith (bytes front : List ℕ) : Type 0 where
  pub rest : List ℕ
  pub is : bytes ≡ front ++ rest

-- what precedes a payload of `n` bytes
abbrev pub chunk_head : List ℕ → ℕ → ℕ → List ℕ
chunk_head key place n = front_of key place ++ to_be_bytes w32 n

abbrev pub chunk_body : List ℕ → ℕ → List ℕ → List ℕ
chunk_body key place payload = chunk_head key place (length payload) ++ payload

-- the checksum of a record block at this place
abbrev pub sum_of : List ℕ → ℕ → List ℕ → List ℕ
sum_of key place payload = mac key (place_bytes place ++ chunk_body key place payload)

unfoldable pub chunk_of : List ℕ → ℕ → List ℕ → List ℕ
chunk_of key place payload = chunk_body key place payload ++ sum_of key place payload

-- the place after it
abbrev pub next_place : ℕ → List ℕ → ℕ
next_place place payload = place + (BESIDE_LEN + length payload)

-- the number in four bytes
abbrev pub number_of_four : List ℕ → ℕ
number_of_four bytes =
    from_be_bytes w32
    (slice_index bytes 0 ∷ slice_index bytes 1 ∷ slice_index bytes 2 ∷ slice_index bytes 3 ∷ [])

-- the number after the beginning of a record block
abbrev pub length_at : List ℕ → ℕ
length_at bytes = number_of_four (drop (FRONT_LEN) bytes)

-- A head stands at the front of these bytes, for a payload of `n` bytes at this place.
pub record IsHead (key : List ℕ) (place : ℕ) (bytes : List ℕ) (n : ℕ) : Type 0 where
  pub room : HEAD_LEN ≤ length bytes
  pub marked : take (FRONT_LEN) bytes ≡ front_of key place
  pub is : n ≡ length_at bytes
  pub short : n ≤ MOST_PAYLOAD

-- No head stands there.
abbrev pub IsHeadless : List ℕ → ℕ → List ℕ → Type 0
IsHeadless key place bytes =
    (length bytes < HEAD_LEN) ⊎ (take (FRONT_LEN) bytes ≢ front_of key place)
    ⊎ ((HEAD_LEN ≤ length bytes) × (MOST_PAYLOAD < length_at bytes))

-- the record blocks of these payloads from a place on, one after the other
abbrev pub chunks_of : List ℕ → ℕ → List (List ℕ) → List ℕ
chunks_of key place [] = []
chunks_of key place (p ∷ ps) =
    chunk_of key place p ++ chunks_of key (next_place place p) ps

-- the place after the last of them
abbrev pub last_place : ℕ → List (List ℕ) → ℕ
last_place place [] = place
last_place place (p ∷ ps) = last_place (next_place place p) ps

abbrev pub IsShort : List ℕ → Type 0
IsShort payload = length payload ≤ MOST_PAYLOAD

-- no record block for this place stands at the front of these bytes
abbrev pub IsEnd : List ℕ → ℕ → List ℕ → Type 0
IsEnd key place bytes = (p : List ℕ) → IsShort p → BeginsWith bytes (chunk_of key place p) → ⊥
