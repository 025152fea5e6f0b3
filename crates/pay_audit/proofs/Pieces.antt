-- Texts that are written piece by piece.
use Rattle.std.proofs.Common.{◌≡◌, ℕ, ◌+◌, ◌++◌, List, [], ◌∷◌, map, take, slice_get, Some, ap, sym, ◌∙◌, arith, append-nil, append_assoc}
use Rattle.std.specs.List.{flat_map, range_with_len}
use Rattle.std.proofs.lemmas.List.{map-id, take_more}
use Rattle.std.proofs.lemmas.List.Concat.{flat_map-append}
use Rattle.std.proofs.lemmas.List.FromFn.{map-range_with_len_more}
use Rattle.std.proofs.lemmas.Option.{get_or_from_slice_get, slice_get_within}

-- behind what stood there, the text of one more
more : {A : Type 0} (before : List ℕ) (f : A → List ℕ) (xs ys : List A) (x : A) (text after : List ℕ) → ys ≡ xs ++ x ∷ []
    → text ≡ before ++ flat_map f xs → after ≡ text ++ f x → after ≡ before ++ flat_map f ys
more before f xs ys x text after longer so_far pushed =
    let joined : flat_map f ys ≡ flat_map f xs ++ f x =
    ap (flat_map f) longer ∙ flat_map-append f xs (x ∷ []) ∙ ap (λ zs. flat_map f xs ++ zs) (append-nil (f x)) in
    pushed
    ∙ ap (λ zs. zs ++ f x) so_far
    ∙ append_assoc before (flat_map f xs) (f x)
    ∙ ap (λ zs. before ++ zs) (sym joined)

-- that of one number more
pub number_more : (before : List ℕ) (f : ℕ → List ℕ) (n : ℕ) (text after : List ℕ) → text ≡ before ++ flat_map f (range_with_len 0 n)
    → after ≡ text ++ f n → after ≡ before ++ flat_map f (range_with_len 0 (n + 1))
number_more before f n text after so_far pushed =
    let same : (m : ℕ) → map (λ (k : ℕ). k) (range_with_len 0 m) ≡ range_with_len 0 m = λ m. map-id (range_with_len 0 m) in
    let longer : range_with_len 0 (n + 1) ≡ range_with_len 0 n ++ n ∷ [] =
    sym (same (n + 1)) ∙ map-range_with_len_more (λ (k : ℕ). k) 0 n n (omega arith) ∙ ap (λ xs. xs ++ n ∷ []) (same n) in
    more before f (range_with_len 0 n) (range_with_len 0 (n + 1)) n text after longer so_far pushed

-- that of one element more
pub element_more : {A : Type 0} (before : List ℕ) (f : A → List ℕ) (xs : List A) (k : ℕ) (x : A) (text after : List ℕ) → slice_get xs k ≡ Some x
    → text ≡ before ++ flat_map f (take k xs) → after ≡ text ++ f x → after ≡ before ++ flat_map f (take (k + 1) xs)
element_more before f xs k x text after at so_far pushed =
    let longer : take (k + 1) xs ≡ take k xs ++ x ∷ [] =
    take_more xs k x (slice_get_within xs k x at) ∙ ap (λ y. take k xs ++ y ∷ []) (get_or_from_slice_get xs k x x at) in
    more before f (take k xs) (take (k + 1) xs) x text after longer so_far pushed
