-- Lists: what a filter keeps, and lists known by their places.
use Rattle.std.proofs.Common.{◌≡◌, ℕ, zero, suc, ◌<◌, Bool, true, false, cond, ◌&&◌, ◌⊎◌, List, [], ◌∷◌, ◌++◌, map, filter, length, slice_get, Option, None, Some, option_to_list, Contains, refl, inl, inr, sym, ap, ◌∙◌, subst, arith, ⊎_elim, append_assoc, append-nil}
use Rattle.std.specs.Option.{option_or}
use Rattle.std.proofs.lemmas.Bool.{cond-true}
use Rattle.std.proofs.lemmas.List.Elements.{Contains-append_left, Contains-append_right, Contains-push, Contains-push_cases, Contains-append_cases}
use Rattle.pay_channel.specs.Prefix.{IsPrefix}

-- one of two cases
pub either : {P Q R : Type 0} → P ⊎ Q → (P → R) → (Q → R) → R
either c p q = ⊎_elim p q c

pub some_same : {X : Type 0} (x y : X) → Some x ≡ Some y → x ≡ y
some_same x y e = cc

pub none_some : {X : Type 0} (x : X) → None ≡ Some x → ⊥
none_some x e = cc

pub option_or-None : {X : Type 0} (o : Option X) → option_or o None ≡ o
option_or-None None = refl
option_or-None (Some x) = refl

-- an induction by one item more at the end
pub by_push : {X : Type 0} (P : List X → Type 0) → P [] → ((xs : List X) (x : X) → P xs → P (xs ++ x ∷ [])) → (xs : List X) → P xs
by_push {X} P none more xs = go [] xs none where
  go : (done rest : List X) → P done → P (done ++ rest)
  go done [] h = rw (append-nil done) h
  go done (x ∷ rest) h = rw (← append_assoc done (x ∷ []) rest) (go (done ++ x ∷ []) rest (more done x h))

-- ---- what a filter keeps

pub Contains-later : {X : Type 0} (x : X) (xs : List X) (y : X) → Contains xs y → Contains (x ∷ xs) y
Contains-later x xs y at = (suc at.0, omega (arith, at.1), at.2)

pub Contains-filter : {X : Type 0} (p : X → Bool) (xs : List X) (y : X) → p y ≡ true → Contains xs y → Contains (filter p xs) y
Contains-filter p [] y passes (k, below, is) = absurd (omega arith)
Contains-filter {X} p (x ∷ xs) y passes (zero, below, is) =
    let kept = cond-true (p x) (x ∷ filter p xs) (filter p xs) (ap p is ∙ passes) in
    let P : List X → Type 0 = λ ys. Contains ys y in
    subst P (sym kept) (zero, omega arith, is)
Contains-filter {X} p (x ∷ xs) y passes (suc k, below, is) = go (p x) (Contains-filter p xs y passes (k, omega arith, is)) where
  go : (b : Bool) → Contains (filter p xs) y → Contains (cond b (x ∷ filter p xs) (filter p xs)) y
  go true rest = Contains-later x (filter p xs) y rest
  go false rest = rest

pub filter-Contains : {X : Type 0} (p : X → Bool) (xs : List X) (y : X) → Contains (filter p xs) y → Contains xs y
filter-Contains p [] y at = at
filter-Contains {X} p (x ∷ xs) y at = go (p x) at (λ later. filter-Contains p xs y later) where
  go : (b : Bool) → Contains (cond b (x ∷ filter p xs) (filter p xs)) y → (Contains (filter p xs) y → Contains xs y) → Contains (x ∷ xs) y
  go true (zero, below, is) rest = (zero, omega arith, is)
  go true (suc k, below, is) rest = Contains-later x xs y (rest (k, omega arith, is))
  go false later rest = Contains-later x xs y (rest later)

-- the items that pass two tests, one test after the other
pub filter-both : {X : Type 0} (p q : X → Bool) (xs : List X) → filter (λ x. p x && q x) xs ≡ filter q (filter p xs)
filter-both p q [] = refl
filter-both {X} p q (x ∷ xs) = go (p x) (filter-both p q xs) where
  go : (b : Bool) → filter (λ y. p y && q y) xs ≡ filter q (filter p xs) → cond (b && q x) (x ∷ filter (λ y. p y && q y) xs) (filter (λ y. p y && q y) xs) ≡ filter q (cond b (x ∷ filter p xs) (filter p xs))
  go true rest = ap (λ ys. cond (q x) (x ∷ ys) ys) rest
  go false rest = rest

-- what stands in one item's list, or none's
pub option-Contains : {X Y : Type 0} (f : X → Y) (o : Option X) (y : Y) → Contains (map f (option_to_list o)) y → (x : X) × (o ≡ Some x) × (f x ≡ y)
option-Contains f None y (k, below, is) = absurd (omega arith)
option-Contains f (Some x) y (zero, below, is) = (x, refl, is)
option-Contains f (Some x) y (suc k, below, is) = absurd (omega arith)

pub Contains-option : {X Y : Type 0} (f : X → Y) (o : Option X) (x : X) → o ≡ Some x → Contains (map f (option_to_list o)) (f x)
Contains-option {X} {Y} f o x e =
    let P : Option X → Type 0 = λ p. Contains (map f (option_to_list p)) (f x) in
    subst P (sym e) (zero, omega arith, refl)

-- ---- lists that grow by what each item more gives

module _ {E X : Type 0} (f : List E → List X) (more : List E → E → List X) (push : (xs : List E) (e : E) → f (xs ++ e ∷ []) ≡ f xs ++ more xs e) (e : E) (x : X) where
  Leads : List E → Type 0
  Leads xs = Contains (f xs) x → Contains xs e

  -- where only e gives x, it came
  pub came_by_push : f [] ≡ [] → ((xs : List E) (d : E) → Contains (more xs d) x → d ≡ e) → (xs : List E) → Contains (f xs) x → Contains xs e
  unfolding Leads
  came_by_push none only = by_push Leads nothing next where
    nothing : Contains (f []) x → Contains [] e
    nothing at = let P : List X → Type 0 = λ ys. Contains ys x in let bad = subst P none at in absurd (omega (arith, bad.1))

    next : (xs : List E) (d : E) → (Contains (f xs) x → Contains xs e) → Contains (f (xs ++ d ∷ [])) x → Contains (xs ++ d ∷ []) e
    next xs d before at =
        let P : List X → Type 0 = λ ys. Contains ys x in
        let Q : E → Type 0 = λ y. Contains (xs ++ d ∷ []) y in
        either (Contains-append_cases (f xs) (more xs d) x (subst P (push xs d) at))
        (λ old. Contains-append_left xs (d ∷ []) e (before old))
        (λ new. subst Q (only xs d new) (Contains-push xs d))

  Yields : List E → Type 0
  Yields xs = Contains xs e → Contains (f xs) x

  -- where e always gives x, x is there once e came
  pub there_by_push : ((xs : List E) → Contains (more xs e) x) → (xs : List E) → Contains xs e → Contains (f xs) x
  unfolding Yields
  there_by_push gives = by_push Yields (λ at. absurd (omega (arith, at.1))) next where
    next : (xs : List E) (d : E) → (Contains xs e → Contains (f xs) x) → Contains (xs ++ d ∷ []) e → Contains (f (xs ++ d ∷ [])) x
    next xs d before at =
        let P : List X → Type 0 = λ ys. Contains ys x in
        let Q : E → Type 0 = λ y. Contains (more xs y) x in
        subst P (sym (push xs d))
        (either (Contains-push_cases xs d e at)
        (λ old. Contains-append_left (f xs) (more xs d) x (before old))
        (λ same. Contains-append_right (f xs) (more xs d) x (subst Q (sym same) (gives xs))))

-- ---- lists known by their places

pub slice_get-inside : {X : Type 0} (xs : List X) (k : ℕ) (v : X) → slice_get xs k ≡ Some v → k < length xs
slice_get-inside [] k v e = absurd (none_some v e)
slice_get-inside (x ∷ xs) zero v e = omega arith
slice_get-inside (x ∷ xs) (suc k) v e = let rest = slice_get-inside xs k v e in omega arith

pub slice_get-some : {X : Type 0} (xs : List X) (k : ℕ) → k < length xs → (v : X) × (slice_get xs k ≡ Some v)
slice_get-some [] k below = absurd (omega arith)
slice_get-some (x ∷ xs) zero below = (x, refl)
slice_get-some (x ∷ xs) (suc k) below = slice_get-some xs k (omega arith)

pub prefix_by_place : {X : Type 0} (xs ys : List X) → ((k : ℕ) (v : X) → slice_get xs k ≡ Some v → slice_get ys k ≡ Some v) → IsPrefix xs ys
prefix_by_place [] ys same = record { rest = ys; is = refl }
prefix_by_place (x ∷ xs) [] same = absurd (none_some x (same zero x refl))
prefix_by_place (x ∷ xs) (y ∷ ys) same =
    let here : y ≡ x = some_same y x (same zero x refl) in
    let later = prefix_by_place xs ys (λ k v e. same (suc k) v e) in
    record { rest = later.rest; is = ap (λ z. z ∷ ys) here ∙ ap (λ zs. x ∷ zs) later.is }

pub same_by_place : {X : Type 0} (xs ys : List X) → ((k : ℕ) (v : X) → slice_get xs k ≡ Some v → slice_get ys k ≡ Some v) → ((k : ℕ) (v : X) → slice_get ys k ≡ Some v → slice_get xs k ≡ Some v) → xs ≡ ys
same_by_place [] [] same back = refl
same_by_place [] (y ∷ ys) same back = absurd (none_some y (back zero y refl))
same_by_place (x ∷ xs) [] same back = absurd (none_some x (same zero x refl))
same_by_place (x ∷ xs) (y ∷ ys) same back =
    let here : x ≡ y = some_same x y (back zero y refl) in
    let later = same_by_place xs ys (λ k v e. same (suc k) v e) (λ k v e. back (suc k) v e) in
    ap (λ z. z ∷ xs) here ∙ ap (λ zs. y ∷ zs) later

prefix-cons : {X : Type 0} (x y : X) (xs ys : List X) → x ≡ y → IsPrefix xs ys → IsPrefix (x ∷ xs) (y ∷ ys)
prefix-cons x y xs ys e p = record { rest = p.rest; is = ap (λ z. z ∷ ys) (sym e) ∙ ap (λ zs. x ∷ zs) p.is }

pub compare_by_place : {X : Type 0} (xs ys : List X) → ((k : ℕ) (v u : X) → slice_get xs k ≡ Some v → slice_get ys k ≡ Some u → v ≡ u) → IsPrefix xs ys ⊎ IsPrefix ys xs
compare_by_place [] ys same = inl (record { rest = ys; is = refl })
compare_by_place (x ∷ xs) [] same = inr (record { rest = x ∷ xs; is = refl })
compare_by_place (x ∷ xs) (y ∷ ys) same =
    let here : x ≡ y = same zero x y refl refl in
    either (compare_by_place xs ys (λ k v u p q. same (suc k) v u p q))
    (λ p. inl (prefix-cons x y xs ys here p))
    (λ p. inr (prefix-cons y x ys xs (sym here) p))
