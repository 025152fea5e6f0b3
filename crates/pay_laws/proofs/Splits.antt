-- What is so of each item of a list after those before it, and prefixes.
use Rattle.std.proofs.Common.{◌≡◌, ◌⊎◌, inl, inr, ℕ, zero, suc, ◌+◌, ◌<◌, ◌≤◌, List, [], ◌∷◌, ◌++◌, length, take, drop, Contains, get_or, refl, sym, ap, ◌∙◌, subst, append_assoc, append-nil, length-append, take-append-drop, take_at, arith}
use Rattle.std.specs.Prelude.{⊤}
use Rattle.std.proofs.lemmas.List.{same_from_push, take-append-le}
use Rattle.std.proofs.lemmas.List.Elements.{Contains-append_left}
use Rattle.pay_channel.specs.Prefix.{IsPrefix}
use Rattle.pay_laws.proofs.Forgetting.{by_push}

-- P of each item after those before it
abbrev pub EachAfter : {X : Type 0} → (List X → X → Type 0) → List X → Type 0
EachAfter {X} P xs = (before : List X) (x : X) (after : List X) → xs ≡ before ++ x ∷ after → P before x

module _ {X : Type 0} (P : List X → X → Type 0) where
  One : List X → X → List X → Type 0
  One xs last after = (before : List X) (x : X) → xs ++ last ∷ [] ≡ before ++ x ∷ after → P before x

  pub each_by_push : (xs : List X) (x : X) → EachAfter P xs → P xs x → EachAfter P (xs ++ x ∷ [])
  unfolding One
  each_by_push xs x each holds before y after is = by_push (One xs x) here earlier after before y is where
    here : (before : List X) (y : X) → xs ++ x ∷ [] ≡ before ++ y ∷ [] → P before y
    here before y is =
        let same = same_from_push xs before x y is in
        subst (λ z. P before z) same.1 (subst (λ l. P l x) same.0 holds)

    earlier : (after : List X) (z : X) → One xs x after → (before : List X) (y : X) → xs ++ x ∷ [] ≡ before ++ y ∷ (after ++ z ∷ []) → P before y
    earlier after z before_it before y is =
        each before y after (same_from_push xs (before ++ y ∷ after) x z (is ∙ sym (append_assoc before (y ∷ after) (z ∷ [])))).0

  -- the same by recursion on the list
  abbrev pub EachFrom : List X → List X → Type 0
  EachFrom done [] = ⊤
  EachFrom done (x ∷ xs) = P done x × EachFrom (done ++ x ∷ []) xs

  pub each_from : (done xs : List X) → EachFrom done xs → (before : List X) (x : X) (after : List X) → xs ≡ before ++ x ∷ after → P (done ++ before) x
  each_from done [] all [] x after is = absurd cc
  each_from done [] all (y ∷ before) x after is = absurd cc
  each_from done (z ∷ xs) all [] x after is =
      let same : z ≡ x = cc in subst (λ l. P l x) (sym (append-nil done)) (subst (P done) same all.0)
  each_from done (z ∷ xs) all (y ∷ before) x after is =
      let same : z ≡ y = cc in
      let rest : xs ≡ before ++ x ∷ after = cc in
      subst (λ l. P l x) (append_assoc done (y ∷ []) before)
      (subst (λ (u : X). P ((done ++ u ∷ []) ++ before) x) same (each_from (done ++ z ∷ []) xs all.1 before x after rest))

-- ---- prefixes

pub prefix_trans : {X : Type 0} (xs ys zs : List X) → IsPrefix xs ys → IsPrefix ys zs → IsPrefix xs zs
prefix_trans xs ys zs p q = record { rest = p.rest ++ q.rest; is = q.is ∙ ap (λ l. l ++ q.rest) p.is ∙ append_assoc xs p.rest q.rest }

pub prefix_Contains : {X : Type 0} (xs ys : List X) (x : X) → IsPrefix xs ys → Contains xs x → Contains ys x
prefix_Contains {X} xs ys x p at = subst (λ (l : List X). Contains l x) (sym p.is) (Contains-append_left xs p.rest x at)

-- of two prefixes of one list the shorter one is a prefix of the longer one
pub prefix_of_longer : {X : Type 0} (xs ys zs : List X) → IsPrefix xs zs → IsPrefix ys zs → length xs ≤ length ys → IsPrefix xs ys
prefix_of_longer xs ys zs p q short =
    let first : take (length xs) ys ≡ xs =
    sym (take-append-le (length xs) ys q.rest short) ∙ ap (take (length xs)) (sym q.is ∙ p.is) ∙ take_at xs p.rest (length xs) refl in
    record { rest = drop (length xs) ys; is = sym (take-append-drop (length xs) ys) ∙ ap (λ l. l ++ drop (length xs) ys) first }

pub prefix_is_shorter : {X : Type 0} (xs ys : List X) → IsPrefix xs ys → length xs ≤ length ys
prefix_is_shorter xs ys begins =
    let n : length ys ≡ length xs + length begins.rest = ap length begins.is ∙ length-append xs begins.rest in omega arith

pub take_is_prefix : {X : Type 0} (k : ℕ) (xs : List X) → IsPrefix (take k xs) xs
take_is_prefix k xs = record { rest = drop k xs; is = sym (take-append-drop k xs) }

-- what an item stands between
pub split_at : {X : Type 0} (xs : List X) (x : X) → Contains xs x → (before : List X) × (after : List X) × (xs ≡ before ++ x ∷ after)
split_at {X} xs x at = go xs at.0 at.1 at.2 where
  go : (ys : List X) (k : ℕ) → k < length ys → get_or ys k x ≡ x → (before : List X) × (after : List X) × (ys ≡ before ++ x ∷ after)
  go [] k below same = absurd (omega arith)
  go (y ∷ ys) zero below same = ([], ys, ap (λ z. z ∷ ys) same)
  go (y ∷ ys) (suc k) below same =
      let later = go ys k (omega arith) same in (y ∷ later.0, later.1, ap (λ l. y ∷ l) later.2)

-- an item of a list stands in its first part, or that part is before it
pub in_or_before : {X : Type 0} (xs ys before after : List X) (x : X) → xs ++ ys ≡ before ++ x ∷ after → Contains xs x ⊎ IsPrefix xs before
in_or_before [] ys before after x is = inr (record { rest = before; is = refl })
in_or_before (z ∷ xs) ys [] after x is = inl (0, omega arith, (let same : z ≡ x = cc in same))
in_or_before (z ∷ xs) ys (y ∷ before) after x is = elim (in_or_before xs ys before after x (let rest : xs ++ ys ≡ before ++ x ∷ after = cc in rest)) [
  | inl at ↦ inl (suc at.0, (let below = at.1 in omega arith), at.2)
  | inr begins ↦ inr (record { rest = begins.rest; is = (let same : y ≡ z = cc in ap (λ u. u ∷ before) same ∙ ap (λ l. z ∷ l) begins.is) })
]
