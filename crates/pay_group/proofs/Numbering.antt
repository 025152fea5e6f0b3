-- Entries of a list, value by value.
use Rattle.std.proofs.Common.{◌≡◌, ℕ, zero, suc, ◌+◌, ◌≤◌, List, [], ◌∷◌, ◌++◌, map, take, length, slice_get, Some, refl, ap, sym, ◌∙◌, append-nil, append_assoc, arith}
use Rattle.std.specs.List.{enumerate_from, flat_map}
use Rattle.std.proofs.lemmas.List.{map-append, take_more}
use Rattle.std.proofs.lemmas.List.Concat.{flat_map-append}
use Rattle.std.proofs.lemmas.Option.{get_or_from_slice_get, slice_get_within}

pub take_next : {A : Type 0} (xs : List A) (k : ℕ) (x : A) → slice_get xs k ≡ Some x → take (k + 1) xs ≡ take k xs ++ x ∷ []
take_next xs k x got =
    take_more xs k x (slice_get_within xs k x got) ∙ ap (λ y. take k xs ++ y ∷ []) (get_or_from_slice_get xs k x x got)

-- one entry of a value more
pub one_entry : {A B : Type 0} (f : A → B) (xs : List A) (k : ℕ) (x : A) (before olds news : List B) → slice_get xs k ≡ Some x
    → olds ≡ before ++ map f (take k xs) → news ≡ olds ++ f x ∷ [] → news ≡ before ++ map f (take (k + 1) xs)
one_entry f xs k x before olds news at so_far pushed =
    pushed ∙ ap (λ o. o ++ f x ∷ []) so_far ∙ append_assoc before (map f (take k xs)) (f x ∷ [])
    ∙ ap (λ z. before ++ z) (sym (ap (map f) (take_next xs k x at) ∙ map-append f (take k xs) (x ∷ [])))

enumerate_append : {A : Type 0} (k : ℕ) (xs : List A) (x : A) → enumerate_from k (xs ++ x ∷ []) ≡ enumerate_from k xs ++ (k + length xs, x) ∷ []
enumerate_append k [] x = ap (λ (n : ℕ). (n, x) ∷ []) (let e : k ≡ k + 0 = omega arith in e)
enumerate_append k (y ∷ xs) x =
    ap (λ l. (k, y) ∷ l) (enumerate_append (k + 1) xs x ∙ ap (λ (n : ℕ). enumerate_from (k + 1) xs ++ (n, x) ∷ []) (let e : k + 1 + length xs ≡ k + suc (length xs) = omega arith in e))

length-take-within : {A : Type 0} (k : ℕ) (xs : List A) → k ≤ length xs → length (take k xs) ≡ k
length-take-within zero xs within = refl
length-take-within (suc k) [] within = absurd (omega (arith, within))
length-take-within (suc k) (x ∷ xs) within = ap suc (length-take-within k xs (omega (arith, within)))

-- the entries of one value more
pub one_value : {A B : Type 0} (f : ℕ × A → List B) (xs : List A) (k : ℕ) (x : A) (olds news : List B) → slice_get xs k ≡ Some x
    → olds ≡ flat_map f (enumerate_from 0 (take k xs)) → news ≡ olds ++ f (k, x) → news ≡ flat_map f (enumerate_from 0 (take (k + 1) xs))
one_value {A} f xs k x olds news at so_far pushed =
    let n : 0 + length (take k xs) ≡ k = (let l = length-take-within k xs (let w = slice_get_within xs k x at in omega (arith, w)) in omega (arith, l)) in
    let more : enumerate_from 0 (take (k + 1) xs) ≡ enumerate_from 0 (take k xs) ++ (k, x) ∷ [] =
    ap (enumerate_from 0) (take_next xs k x at) ∙ enumerate_append 0 (take k xs) x ∙ ap (λ (m : ℕ). enumerate_from 0 (take k xs) ++ (m, x) ∷ []) n in
    pushed ∙ ap (λ o. o ++ f (k, x)) so_far
    ∙ sym (ap (flat_map f) more ∙ flat_map-append f (enumerate_from 0 (take k xs)) ((k, x) ∷ []) ∙ ap (λ z. flat_map f (enumerate_from 0 (take k xs)) ++ z) (append-nil (f (k, x))))
