-- Lists that a loop makes place by place.
use Rattle.std.proofs.Common.{◌≡◌, ℕ, ◌+◌, List, [], ◌∷◌, ◌++◌, length, map, sym, ◌∙◌, ap, arith}
use Rattle.std.specs.List.{range_with_len}
use Rattle.std.proofs.lemmas.List.FromFn.{map-range_with_len_more, length-map-range_with_len}

-- one place more
pub filled_more : (f : ℕ → List ℕ) (xs ys : List (List ℕ)) (n : ℕ) →
    xs ≡ map f (range_with_len 0 n) → ys ≡ xs ++ f n ∷ [] → ys ≡ map f (range_with_len 0 (n + 1))
filled_more f xs ys n before push =
    rw before at push ∙ sym (map-range_with_len_more f 0 n n (omega arith))

pub length-filled : (f : ℕ → List ℕ) (xs : List (List ℕ)) (n : ℕ) → xs ≡ map f (range_with_len 0 n) → length xs ≡ n
length-filled f xs n h = ap length h ∙ length-map-range_with_len f 0 n
