-- Bytes that have grown by those of one item more.
use Rattle.std.proofs.Common.{◌≡◌, ℕ, ◌+◌, ◌<◌, List, [], ◌∷◌, ◌++◌, length, map, take, get_or, ap, ◌∙◌, sym, arith, append_assoc, append-nil}
use Rattle.std.specs.List.{flat_map, range_with_len}
use Rattle.std.proofs.lemmas.List.{map-id, take_more}
use Rattle.std.proofs.lemmas.List.Concat.{flat_map-append}
use Rattle.std.proofs.lemmas.List.FromFn.{map-range_with_len_more}

pub one_place_more :
    (f : ℕ → List ℕ) (n : ℕ) (old new more : List ℕ) → old ≡ flat_map f (range_with_len 0 n) → new ≡ old ++ more → more ≡ f n
    → new ≡ flat_map f (range_with_len 0 (n + 1))
one_place_more f n old new more so_far pushed is =
    let same : (m : ℕ) → map (λ (k : ℕ). k) (range_with_len 0 m) ≡ range_with_len 0 m = λ m. map-id (range_with_len 0 m) in
    let longer : range_with_len 0 (n + 1) ≡ range_with_len 0 n ++ n ∷ [] =
    sym (same (n + 1)) ∙ map-range_with_len_more (λ (k : ℕ). k) 0 n n (omega arith) ∙ ap (λ (xs : List ℕ). xs ++ n ∷ []) (same n) in
    pushed
    ∙ ap (λ (xs : List ℕ). xs ++ more) so_far
    ∙ ap (λ (xs : List ℕ). flat_map f (range_with_len 0 n) ++ xs) (is ∙ sym (append-nil (f n)))
    ∙ sym (flat_map-append f (range_with_len 0 n) (n ∷ []))
    ∙ ap (λ (xs : List ℕ). flat_map f xs) (sym longer)

pub one_item_more :
    {X : Type 0} (f : X → List ℕ) (front : List ℕ) (xs : List X) (i : ℕ) (d : X) (old new more : List ℕ) → i < length xs
    → old ≡ front ++ flat_map f (take i xs) → new ≡ old ++ more → more ≡ f (get_or xs i d)
    → new ≡ front ++ flat_map f (take (i + 1) xs)
one_item_more f front xs i d old new more within so_far pushed is =
    pushed
    ∙ ap (λ (l : List ℕ). l ++ more) so_far
    ∙ append_assoc front (flat_map f (take i xs)) more
    ∙ ap (λ (l : List ℕ). front ++ l)
    (ap (λ (l : List ℕ). flat_map f (take i xs) ++ l) (is ∙ sym (append-nil (f (get_or xs i d))))
    ∙ sym (flat_map-append f (take i xs) (get_or xs i d ∷ []))
    ∙ ap (λ l. flat_map f l) (sym (take_more xs i d within)))
