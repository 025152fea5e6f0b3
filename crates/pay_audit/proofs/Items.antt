-- The text of an array, item by item.
use Rattle.std.proofs.Common.{◌≡◌, ℕ, zero, suc, ◌+◌, List, [], ◌∷◌, ◌++◌, map, take, Bool, true, false, ◌||◌, nat_lt, Some, refl, ap, ap₂, sym, ◌∙◌, append_assoc, append-nil, add-one, arith}
use Rattle.std.proofs.lemmas.Bool.{lt-ltb}
use Rattle.std.specs.List.{slice_get}
use Rattle.serde_json.specs.Data.{Data, array}
use Rattle.serde_json.specs.View.{items_of}
use Rattle.serde_json.specs.Written.{comma_if, compact_text, items_text}

-- the items of an array, without its brackets
abbrev pub begun : Bool → List Data → List ℕ
begun later [] = []
begun later (d ∷ ds) = comma_if later ++ (compact_text d ++ begun true ds)

-- with the bracket at their end
pub closed : (later : Bool) (ds : List Data) → begun later ds ++ 93 ∷ [] ≡ items_text later (items_of ds)
closed later [] = refl
closed later (d ∷ ds) =
    append_assoc (comma_if later) (compact_text d ++ begun true ds) (93 ∷ [])
    ∙ ap (λ xs. comma_if later ++ xs) (append_assoc (compact_text d) (begun true ds) (93 ∷ []) ∙ ap (λ xs. compact_text d ++ xs) (closed true ds))

or_true : (b : Bool) → (b || true) ≡ true
or_true true = refl
or_true false = refl

or_false : (b : Bool) → (b || false) ≡ b
or_false true = refl
or_false false = refl

one_more : {A : Type 0} (f : A → Data) (later : Bool) (xs : List A) (k : ℕ) (x : A) → slice_get xs k ≡ Some x
    → begun later (map f (take k xs)) ++ (comma_if (later || nat_lt 0 k) ++ compact_text (f x)) ≡ begun later (map f (take (suc k) xs))
one_more f later [] k x got = absurd cc
one_more f later (y ∷ xs) zero x got =
    let same : y ≡ x = cc in
    ap₂ (λ b z. comma_if b ++ compact_text (f z)) (or_false later) (sym same)
    ∙ ap (λ t. comma_if later ++ t) (sym (append-nil (compact_text (f y))))
one_more f later (y ∷ xs) (suc k) x got =
    let rest = begun true (map f (take k xs)) in
    let item = comma_if (later || true) ++ compact_text (f x) in
    ap (λ b. (comma_if later ++ (compact_text (f y) ++ rest)) ++ (comma_if (later || b) ++ compact_text (f x))) (lt-ltb 0 (suc k) (omega arith))
    ∙ append_assoc (comma_if later) (compact_text (f y) ++ rest) item
    ∙ ap (λ t. comma_if later ++ t) (append_assoc (compact_text (f y)) rest item
    ∙ ap (λ t. compact_text (f y) ++ t)
    (ap (λ b. rest ++ (comma_if b ++ compact_text (f x))) (or_true later) ∙ one_more f true xs k x got))

-- the next item of an array, after its bracket
pub next_in_array : {A : Type 0} (f : A → Data) (xs : List A) (k : ℕ) (x : A) (t : List ℕ) → slice_get xs k ≡ Some x → t ≡ compact_text (f x)
    → ((91 ∷ begun false (map f (take k xs))) ++ comma_if (nat_lt 0 k)) ++ t ≡ 91 ∷ begun false (map f (take (k + 1) xs))
next_in_array f xs k x t got is =
    append_assoc (91 ∷ begun false (map f (take k xs))) (comma_if (nat_lt 0 k)) t
    ∙ ap (λ s. 91 ∷ (begun false (map f (take k xs)) ++ (comma_if (nat_lt 0 k) ++ s))) is
    ∙ ap (λ s. 91 ∷ s) (one_more f false xs k x got)
    ∙ ap (λ n. 91 ∷ begun false (map f (take n xs))) (sym (add-one k))

-- all of them, with the bracket at their end
pub all_in_array : {A : Type 0} (f : A → Data) (xs : List A) (k : ℕ) → take k xs ≡ xs
    → (91 ∷ begun false (map f (take k xs))) ++ 93 ∷ [] ≡ compact_text (array (items_of (map f xs)))
all_in_array f xs k all = ap (λ ys. 91 ∷ (begun false (map f ys) ++ 93 ∷ [])) all ∙ ap (λ t. 91 ∷ t) (closed false (map f xs))
