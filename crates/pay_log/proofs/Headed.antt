-- The parts of a header, one after the other.
use Rattle.std.proofs.Common.{◌≡◌, ℕ, List, ◌++◌, length, take, drop, sym, ap, ◌∙◌, arith, length-append}
use Rattle.std.proofs.Math.Seq.{take-add}
use Rattle.std.specs.Int.{w16, to_be_bytes}
use Rattle.pay_log.specs.declared.header.Header.{Header}
use Rattle.pay_log.specs.Headers.{header_bytes, magic, version}

pub to_9 : (f : List ℕ) → take 8 f ≡ magic → take 1 (drop 8 f) ≡ version → take 9 f ≡ magic ++ version
to_9 f e1 e2 = take-add 8 1 f ∙ ap (λ (l : List ℕ). l ++ take 1 (drop 8 f)) e1 ∙ ap (λ (l : List ℕ). magic ++ l) e2

pub to_41 :
    (f genesis : List ℕ) → length genesis ≡ 32 → take 9 f ≡ magic ++ version → take (length genesis) (drop 9 f) ≡ genesis
    → take 41 f ≡ magic ++ version ++ genesis
to_41 f genesis long before e =
    take-add 9 32 f ∙ ap (λ (l : List ℕ). l ++ take 32 (drop 9 f)) before
    ∙ ap (λ (l : List ℕ). magic ++ version ++ l) (ap (λ (m : ℕ). take m (drop 9 f)) (sym long) ∙ e)

-- the parts before the keys
pub before_keys :
    (f genesis number : List ℕ) → length genesis ≡ 32 → length number ≡ 2 → take 8 f ≡ magic → take 1 (drop 8 f) ≡ version
    → take (length genesis) (drop 9 f) ≡ genesis → take (length number) (drop 41 f) ≡ number
    → take 43 f ≡ magic ++ version ++ genesis ++ number
before_keys f genesis number long_g long_n e1 e2 e3 e4 =
    take-add 41 2 f ∙ ap (λ (l : List ℕ). l ++ take 2 (drop 41 f)) (to_41 f genesis long_g (to_9 f e1 e2) e3)
    ∙ ap (λ (l : List ℕ). magic ++ version ++ genesis ++ l) (ap (λ (m : ℕ). take m (drop 41 f)) (sym long_n) ∙ e4)

pub from_parts :
    (f genesis number keys : List ℕ) → length keys ≡ 32 → take 43 f ≡ magic ++ version ++ genesis ++ number
    → take (length keys) (drop 43 f) ≡ keys → take 75 f ≡ magic ++ version ++ genesis ++ number ++ keys
from_parts f genesis number keys long before e =
    take-add 43 32 f
    ∙ ap (λ (l : List ℕ). l ++ take 32 (drop 43 f)) before
    ∙ ap (λ (l : List ℕ). magic ++ version ++ genesis ++ number ++ l) (ap (λ (m : ℕ). take m (drop 43 f)) (sym long) ∙ e)

pub header_length : (h : Header) → length h.genesis ≡ 32 → length h.keys ≡ 32 → length (header_bytes h) ≡ 75
header_length h long_g long_k =
    omega (
      arith,
      long_g,
      long_k,
      length-append magic version,
      length-append (magic ++ version) h.genesis,
      length-append (magic ++ version ++ h.genesis) (to_be_bytes w16 h.member),
      length-append (magic ++ version ++ h.genesis ++ to_be_bytes w16 h.member) h.keys,
    )
