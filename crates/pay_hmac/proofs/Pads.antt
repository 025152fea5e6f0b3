-- A pad repeats one byte, so its exclusive or goes byte by byte; and what a key leaves of a block.
use Rattle.std.proofs.Common.{◌≡◌, ℕ, ◌≤◌, ◌<◌, List, [], ◌∷◌, ◌++◌, length, map, drop, replicate, bit_xor, nat_lt, true, false, refl, ap, sym, ◌∙◌, arith, rules}
use Rattle.std.proofs.lemmas.List.{drop-replicate}
use Rattle.sha2.specs.Sha256.{sha256}
use Rattle.sha2.proofs.Facts256.{length-sha256}
use Rattle.pay_hmac.specs.Mac.{block_bytes, inner_digest, inner_pad, mac, outer_pad, padded_key, short_key, xor_bytes}

-- each byte meets the byte that the pad repeats
pub xor_bytes-replicate : (xs : List ℕ) (b : ℕ) → xor_bytes xs (replicate (length xs) b) ≡ map (λ x. bit_xor x b) xs
xor_bytes-replicate [] b = refl
xor_bytes-replicate (x ∷ xs) b = ap (λ ys. bit_xor x b ∷ ys) (xor_bytes-replicate xs b)

-- the pad of a block, at a block
pub xor_bytes-block : (xs : List ℕ) (b : ℕ) → length xs ≡ block_bytes → xor_bytes xs (replicate 64 b) ≡ map (λ x. bit_xor x b) xs
xor_bytes-block xs b h = ap (λ n. xor_bytes xs (replicate n b)) (sym h) ∙ xor_bytes-replicate xs b

-- a key of more than a block is its digest and zeros
pub padded_key-long : (key : List ℕ) → block_bytes < length key → padded_key key ≡ sha256 key ++ replicate 32 0
unfolding padded_key short_key
padded_key-long key h =
    let test : nat_lt 64 (length key) ≡ true = search rules in
    rw (test, length-sha256 key) refl

-- any other key is itself and the zeros that it leaves of a block
pub padded_key-short : (key : List ℕ) → length key ≤ block_bytes → padded_key key ≡ key ++ drop (length key) (replicate 64 0)
unfolding padded_key short_key
padded_key-short key h =
    let test : nat_lt 64 (length key) ≡ false = search rules in
    rw (test, drop-replicate {X = ℕ} (length key) 64 0) refl

pub ruleset filled_blocks = (padded_key-long, padded_key-short)

-- a key of more than a block and its digest make the same block
pub padded_key-digest : (key : List ℕ) → block_bytes < length key → padded_key key ≡ padded_key (sha256 key)
padded_key-digest key h =
    let fits : length (sha256 key) ≤ block_bytes = omega (arith, length-sha256 key) in
    let zeros = drop-replicate {X = ℕ} (length (sha256 key)) 64 0 in
    rw (padded_key-long key h, padded_key-short (sha256 key) fits, zeros, length-sha256 key) refl

-- so do their tags
pub mac-long_key : (key text : List ℕ) → block_bytes < length key → mac key text ≡ mac (sha256 key) text
unfolding mac inner_digest
mac-long_key key text h =
    ap (λ k. sha256 (xor_bytes k outer_pad ++ sha256 (xor_bytes k inner_pad ++ text))) (padded_key-digest key h)
