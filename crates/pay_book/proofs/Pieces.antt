-- Pieces of a list: so many items from a place on.
use Rattle.std.proofs.Common.{◌≡◌, ℕ, zero, suc, ◌+◌, ◌-◌, ◌≤◌, List, [], ◌∷◌, ◌++◌, length, length-drop, take, drop, min, refl, ap, ◌∙◌, sym, arith, inl, inr}
use Rattle.std.specs.Prelude.{slice_get, Some}
use Rattle.std.proofs.lemmas.Bool.{cases_lt}
use Rattle.std.proofs.lemmas.List.{take_more, take_all, drop_all, drop-take, length-take, get_or-drop}
use Rattle.std.proofs.lemmas.Option.{slice_get_within, get_or_from_slice_get}

-- one item more
pub piece_more : {X : Type 0} (xs : List X) (from k : ℕ) (x : X) → slice_get xs (from + k) ≡ Some x → take (k + 1) (drop from xs) ≡ take k (drop from xs) ++ x ∷ []
piece_more xs from k x is =
    let inside = slice_get_within xs (from + k) x is in
    take_more (drop from xs) k x (simp length-drop (omega arith))
    ∙ ap (λ y. take k (drop from xs) ++ y ∷ []) (get_or-drop from xs k x ∙ get_or_from_slice_get xs (from + k) x x is)

-- more items than there are
pub piece_whole : {X : Type 0} (xs : List X) (from k most : ℕ) → length xs ≤ from + k → k ≤ most → take k (drop from xs) ≡ take most (drop from xs)
piece_whole xs from k most end more =
    take_all k (drop from xs) (simp length-drop (omega arith)) ∙ sym (take_all most (drop from xs) (simp length-drop (omega arith)))

take_shorter : {X : Type 0} (m n : ℕ) (xs : List X) → m ≤ n → take m (take n xs) ≡ take m xs
take_shorter zero n xs h = refl
take_shorter (suc m) zero xs h = absurd (omega arith)
take_shorter (suc m) (suc n) [] h = refl
take_shorter (suc m) (suc n) (x ∷ xs) h = ap (λ ys. x ∷ ys) (take_shorter m n xs (omega arith))

-- a piece that ends before a place, counted from where it begins
pub piece_before : {X : Type 0} (xs : List X) (from end most k : ℕ) → k ≡ min (end - from) most → from ≤ end → take k (drop from xs) ≡ take most (drop from (take end xs))
piece_before xs from end most k is within =
    let split : end ≡ from + (end - from) = omega arith in
    let before : drop from (take end xs) ≡ take (end - from) (drop from xs) = ap (λ n. drop from (take n xs)) split ∙ drop-take from (end - from) xs in
    let short = length-take (end - from) (drop from xs) in
    elim (cases_lt most (end - from)) [
      | inl few ↦
          (let all : k ≡ most = omega arith in
          ap (λ n. take n (drop from xs)) all ∙ sym (take_shorter most (end - from) (drop from xs) (omega arith)) ∙ ap (take most) (sym before))
      | inr many ↦
          (let all : k ≡ end - from = omega arith in
          ap (λ n. take n (drop from xs)) all
          ∙ sym (take_all most (take (end - from) (drop from xs)) (omega arith))
          ∙ ap (take most) (sym before))
    ]

-- nothing is before a place from there on
pub piece_past : {X : Type 0} (xs : List X) (from end most : ℕ) → end ≤ from → [] ≡ take most (drop from (take end xs))
piece_past xs from end most past =
    let long = length-take end xs in
    let none : drop from (take end xs) ≡ [] = drop_all from (take end xs) (omega arith) in
    let short = ap length none in
    sym none ∙ sym (take_all most (drop from (take end xs)) (omega arith))

-- a piece that ends before a place, also where it begins behind that
pub piece_to : {X : Type 0} (xs : List X) (from end most first k : ℕ) → first ≡ min from end → k ≡ min (end - first) most → take k (drop first xs) ≡ take most (drop from (take end xs))
piece_to xs from end most first k begins is =
    elim (cases_lt end from) [
      | inl past ↦
          (let none : k ≡ zero = omega arith in
          ap (λ n. take n (drop first xs)) none ∙ piece_past xs from end most (omega arith))
      | inr within ↦
          (let same : first ≡ from = omega arith in
          let long : k ≡ min (end - from) most = is ∙ ap (λ n. min (end - n) most) same in
          ap (λ n. take k (drop n xs)) same ∙ piece_before xs from end most k long within)
    ]
