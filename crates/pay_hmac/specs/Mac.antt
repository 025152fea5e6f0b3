-- HMAC (RFC 2104) over lists of bytes, its hash H being SHA-256 as the crate sha2 defines it. The
-- names of the steps, and the section numbers, are that RFC's.
use Rattle.std.specs.Prelude.{◌≡◌, ℕ, ◌-◌, List, [], ◌∷◌, ◌++◌, length, replicate, bit_xor, nat_lt}
use Rattle.std.specs.Prelude.{if◌then◌else◌}
use Rattle.sha2.specs.Sha256.{sha256}
use Rattle.sha2.proofs.Facts256.{length-sha256}

-- B, how many bytes a block of the hash has (section 2)
abbrev pub block_bytes : ℕ
block_bytes = 64

-- ipad, the byte 0x36 repeated B times (section 2)
abbrev pub inner_pad : List ℕ
inner_pad = replicate block_bytes 0x36

-- opad, the byte 0x5C repeated B times (section 2)
abbrev pub outer_pad : List ℕ
outer_pad = replicate block_bytes 0x5C

-- K: a key of more than B bytes is hashed first, any other key is used directly (section 2)
unfoldable pub short_key : List ℕ → List ℕ
short_key key = if nat_lt block_bytes (length key) then sha256 key else key

-- step (1): K with zero bytes appended, up to B bytes (section 2)
unfoldable pub padded_key : List ℕ → List ℕ
padded_key key = short_key key ++ replicate (block_bytes - length (short_key key)) 0

-- steps (2) and (5): the exclusive or of two strings, byte by byte (section 2)
abbrev pub xor_bytes : List ℕ → List ℕ → List ℕ
xor_bytes (x ∷ xs) (y ∷ ys) = bit_xor x y ∷ xor_bytes xs ys
xor_bytes [] ys = []
xor_bytes (x ∷ xs) [] = []

-- steps (2) to (4): H(K XOR ipad, text) (section 2)
unfoldable pub inner_digest : List ℕ → List ℕ → List ℕ
inner_digest key text = sha256 (xor_bytes (padded_key key) inner_pad ++ text)

-- steps (5) to (7): H(K XOR opad, H(K XOR ipad, text)), the tag of a text under a key (section 2)
unfoldable pub mac : List ℕ → List ℕ → List ℕ
mac key text = sha256 (xor_bytes (padded_key key) outer_pad ++ inner_digest key text)

-- a tag has 32 bytes
pub length-mac : (key text : List ℕ) → length (mac key text) ≡ 32
unfolding mac
length-mac key text = length-sha256 (xor_bytes (padded_key key) outer_pad ++ inner_digest key text)
