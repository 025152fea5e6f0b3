-- A log's header: `payd log`, the number of the format, the SHA-256 of the genesis, the member's
-- number in two bytes, and the fingerprint of the member's keys.
use Rattle.std.specs.Prelude.{◌≢◌, ◌≡◌, ◌⊎◌, ◌<◌, ℕ, List, [], ◌∷◌, ◌++◌, length, take, drop}
use Rattle.std.specs.Int.{w16, to_be_bytes}
use Rattle.pay_log.specs.declared.header.Header.{Header}
use Rattle.pay_log.specs.declared.chunk.TheConstants.{HEADER_LEN}
use Rattle.pay_log.specs.declared.header.Mismatch.{Mismatch}
use Rattle.pay_log.specs.declared.header.Mismatch.TheVariants.{NoLog, Version, Genesis, Member}
use Rattle.pay_log.specs.declared.header.Mismatch.TheVariants.{Keys}

-- `payd log`
abbrev pub magic : List ℕ
magic = 112 ∷ 97 ∷ 121 ∷ 100 ∷ 32 ∷ 108 ∷ 111 ∷ 103 ∷ []

-- the number of the format
abbrev pub version : List ℕ
version = 4 ∷ []

abbrev pub header_bytes : Header → List ℕ
header_bytes h = magic ++ version ++ h.genesis ++ to_be_bytes w16 h.member ++ h.keys

-- The file doesn't begin with this header.
abbrev pub IsForeignHeader : Header → List ℕ → Mismatch → Type 0
IsForeignHeader h file NoLog = (length file < HEADER_LEN) ⊎ (take 8 file ≢ magic)
IsForeignHeader h file Version = (take 8 file ≡ magic) × (take 1 (drop 8 file) ≢ version)
IsForeignHeader h file Genesis =
    (take 9 file ≡ magic ++ version) × (take 32 (drop 9 file) ≢ h.genesis)
IsForeignHeader h file Member =
    (take 41 file ≡ magic ++ version ++ h.genesis)
    × (take 2 (drop 41 file) ≢ to_be_bytes w16 h.member)
IsForeignHeader h file Keys =
    (take 43 file ≡ magic ++ version ++ h.genesis ++ to_be_bytes w16 h.member)
    × (take 32 (drop 43 file) ≢ h.keys)
