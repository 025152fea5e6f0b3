-- Texts of accounts one after the other.
use Rattle.std.proofs.Common.{◌≡◌, ℕ, ◌+◌, ◌++◌, List, [], ◌∷◌, map, ap, sym, ◌∙◌, arith, append-nil, append_assoc}
use Rattle.std.specs.List.{flat_map, range_with_len}
use Rattle.std.proofs.lemmas.List.{map-id}
use Rattle.std.proofs.lemmas.List.Concat.{flat_map-append}
use Rattle.std.proofs.lemmas.List.FromFn.{map-range_with_len_more}

flat_map-range_more : (f : ℕ → List ℕ) (n : ℕ) → flat_map f (range_with_len 0 (n + 1)) ≡ flat_map f (range_with_len 0 n) ++ f n
flat_map-range_more f n =
    let same : (m : ℕ) → map (λ (k : ℕ). k) (range_with_len 0 m) ≡ range_with_len 0 m = λ m. map-id (range_with_len 0 m) in
    let longer : range_with_len 0 (n + 1) ≡ range_with_len 0 n ++ n ∷ [] =
    sym (same (n + 1)) ∙ map-range_with_len_more (λ (k : ℕ). k) 0 n n (omega arith) ∙ ap (λ xs. xs ++ n ∷ []) (same n) in
    ap (flat_map f) longer ∙ flat_map-append f (range_with_len 0 n) (n ∷ []) ∙ ap (λ xs. flat_map f (range_with_len 0 n) ++ xs) (append-nil (f n))

-- behind what stood there, the text of one account more
pub one_more : (before : List ℕ) (f : ℕ → List ℕ) (n : ℕ) (text after : List ℕ) → text ≡ before ++ flat_map f (range_with_len 0 n) → after ≡ text ++ f n
    → after ≡ before ++ flat_map f (range_with_len 0 (n + 1))
one_more before f n text after so_far pushed =
    pushed
    ∙ ap (λ xs. xs ++ f n) so_far
    ∙ append_assoc before (flat_map f (range_with_len 0 n)) (f n)
    ∙ ap (λ xs. before ++ xs) (sym (flat_map-range_more f n))
