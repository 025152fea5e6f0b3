-- Which byte may stand at a place of a frame's head, after the bytes before it: the reader's own
-- test. A proof shows that it agrees with the definition in Reading.antt.
use Rattle.std.specs.Prelude.{◌≡◌, ℕ, ◌+◌, ◌-◌, ◌*◌, ◌/◌, ◌%◌, ◌<◌, ◌≤◌, Bool, true, false, not}
use Rattle.std.specs.Prelude.{◌&&◌, ◌||◌, ◌==◌, nat_lt, nat_le, if◌then◌else◌, List, [], ◌∷◌}
use Rattle.std.specs.Prelude.{length, take, slice_index}
use Rattle.std.specs.Int.{w16, w32, w64, from_be_bytes}
use Rattle.pay_frame.specs.declared.limits.TheConstants.{LEAST_LENGTH, GREATEST_VALUE}

-- what the length field says
abbrev pub length_field : List ℕ → ℕ
length_field bytes = 256 * slice_index bytes 0 + slice_index bytes 1

abbrev pub says_want : List ℕ → Bool
says_want bytes = slice_index bytes 3 == 4

-- a length that some frame has
abbrev pub is_length : ℕ → Bool
is_length n = nat_le LEAST_LENGTH n && nat_le n (LEAST_LENGTH + GREATEST_VALUE)

-- a kind's code
abbrev pub is_code : ℕ → Bool
is_code byte = nat_le 1 byte && nat_le byte 4

abbrev pub may_stand : List ℕ → ℕ → Bool
may_stand bytes place =
    let byte = slice_index bytes place in
    if place == 0 then nat_le byte 4
    else if place == 1 then is_length (length_field bytes)
    else if place == 2 then byte == 1
    else if place == 3 then is_code byte && (not (byte == 4) || length_field bytes == LEAST_LENGTH)
    else if nat_lt place 16 then true
    else if nat_lt place 18 then not (says_want bytes) || byte == 0
    else if nat_lt place 20 then byte == 0
    else if nat_lt place 22 then not (says_want bytes) || byte == 0
    else if place == 22 then byte == (length_field bytes - LEAST_LENGTH) / 256
    else if place == 23 then byte == (length_field bytes - LEAST_LENGTH) % 256
    else true

-- the bytes that stand before a place all pass
abbrev pub PassBelow : List ℕ → ℕ → Type 0
PassBelow bytes place = (k : ℕ) → k < place → may_stand bytes k ≡ true

-- the first place of the head, if any, with a byte that doesn't pass
abbrev pub IsFirstWrong : List ℕ → ℕ → Type 0
IsFirstWrong bytes place =
    (place < 24) × (place < length bytes) × PassBelow bytes place × (may_stand bytes place ≡ false)

-- the bytes from a place on, as a number
abbrev pub two_at : List ℕ → ℕ → ℕ
two_at h p = from_be_bytes w16 (slice_index h p ∷ slice_index h (p + 1) ∷ [])

abbrev pub four_at : List ℕ → ℕ → ℕ
four_at h p =
    from_be_bytes w32
    (slice_index h p ∷ slice_index h (p + 1) ∷ slice_index h (p + 2) ∷ slice_index h (p + 3) ∷ [])

abbrev pub eight_at : List ℕ → ℕ → ℕ
eight_at h p =
    from_be_bytes w64
    (slice_index h p ∷ slice_index h (p + 1) ∷ slice_index h (p + 2) ∷ slice_index h (p + 3)
    ∷ slice_index h (p + 4) ∷ slice_index h (p + 5) ∷ slice_index h (p + 6) ∷ slice_index h (p + 7)
    ∷ [])

-- ---- the tests of all places of a head at once, by its fields

abbrev pub are_lengths : List ℕ → Bool
are_lengths h =
    let length = length_field h in
    is_length length && (two_at h 22 == length - LEAST_LENGTH)

-- owner 0, sequence number 0 and no value, if the sequence number is below 65,536
abbrev pub is_bare_head : List ℕ → Bool
is_bare_head h = (two_at h 16 == 0) && (two_at h 20 == 0) && (two_at h 22 == 0)

-- this holds exactly if the byte at each place passes
abbrev pub is_head : List ℕ → Bool
is_head h =
    are_lengths h && (slice_index h 2 == 1) && is_code (slice_index h 3)
    && (two_at h 18 == 0) && (not (says_want h) || is_bare_head h)

-- a head that passes, and as many bytes as its length field says
pub record IsWhole (bytes : List ℕ) : Type 0 where
  pub head : PassBelow bytes 24
  pub length : length bytes ≡ 2 + length_field bytes

-- `size` bytes in front are a complete frame
pub record IsSizeOf (bytes : List ℕ) (size : ℕ) : Type 0 where
  pub within : size ≤ length bytes
  pub whole : IsWhole (take size bytes)
