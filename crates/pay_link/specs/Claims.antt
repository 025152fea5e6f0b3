-- WANTs that request no frame. A member that starts again draws a number, sends it as a challenge,
-- and is answered by a claim on it. So the claim was made after the start, whatever frames were
-- recorded before.
use Rattle.std.specs.Prelude.{◌≡◌, ◌≢◌, ℕ, ◌+◌, ◌-◌, ◌*◌, ◌^◌, ◌<◌, ◌≤◌, min, Option, Some}
use Rattle.std.specs.Prelude.{None}
use Rattle.pay_link.specs.declared.claims.Asked.{Asked}
use Rattle.pay_link.specs.declared.claims.Asked.TheVariants.{Place, Challenge, Nothing}

-- page: `challenge_number`, `claim_number`: the number of a WANT is a place if it is below 2^63.
--   2^63 + n * 2^25, for n below 2^37, is a challenge with the nonce n. The claim on it is 2^63 +
--   2^62 + n * 2^25 + c: its sender accepted the first c frames of the challenger's list, or more
--   if c is 2^25 - 1. Other numbers get no answer.
-- a challenge with a nonce below 2^37
abbrev pub challenge_number : ℕ → ℕ
challenge_number nonce = 2 ^ 63 + nonce * 2 ^ 25

-- the claim on a challenge: the sender accepted `next` frames, or more if `next` doesn't fit into
-- the claim
abbrev pub claim_number : ℕ → ℕ → ℕ
claim_number nonce next = 2 ^ 63 + 2 ^ 62 + nonce * 2 ^ 25 + min next (2 ^ 25 - 1)

-- a number that can be the nonce of a challenge
abbrev pub IsNonce : ℕ → Type 0
IsNonce nonce = nonce < 2 ^ 37

-- what the number of a WANT requests
abbrev pub IsAskedBy : ℕ → Asked → Type 0
IsAskedBy number (Place place) = (place ≡ number) × (number < 2 ^ 63)
IsAskedBy number (Challenge nonce) = IsNonce nonce × (number ≡ challenge_number nonce)
IsAskedBy number Nothing =
    (2 ^ 63 ≤ number) × ((nonce : ℕ) → IsNonce nonce → number ≢ challenge_number nonce)

-- what the number of a WANT claims, if it is a claim on this challenge
abbrev pub IsClaimedBy : ℕ → ℕ → Option ℕ → Type 0
IsClaimedBy nonce number (Some taken) = (taken < 2 ^ 25) × (number ≡ claim_number nonce taken)
IsClaimedBy nonce number None = (taken : ℕ) → number ≢ claim_number nonce taken
