-- Lists that begin with a list, and those of them that have a value behind it.
use Rattle.std.proofs.Common.{◌≡◌, ℕ, ◌+◌, ◌≤◌, Bool, true, false, ◌&&◌, cond, List, [], ◌∷◌, ◌++◌, length, map, refl, ap, sym, ◌∙◌, zero-add, arith}
use Rattle.std.specs.List.{count_by, filter}
use Rattle.std.specs.Str.{bytes_eq}
use Rattle.std.proofs.lemmas.Slice.Eq.{bytes_eq-Decides}
use Rattle.pay_channel.specs.Prefix.{IsPrefix}
use Rattle.pay_group.specs.Backing.{begins, backers, has_at, IsBacked}
use Rattle.pay_group.proofs.Counting.{one_more}

-- ---- counts

pub count_map : {X Y : Type 0} (p : Y → Bool) (f : X → Y) (xs : List X) → count_by p (map f xs) ≡ count_by (λ x. p (f x)) xs
count_map p f [] = refl
count_map p f (x ∷ xs) =
    one_more p (f x) (map f xs) ∙ ap (λ n. cond (p (f x)) 1 0 + n) (count_map p f xs) ∙ sym (one_more (λ x. p (f x)) x xs)

pub count_same : {X : Type 0} (p q : X → Bool) → ((x : X) → p x ≡ q x) → (xs : List X) → count_by p xs ≡ count_by q xs
count_same {X} p q same xs = ap (λ (t : X → Bool). count_by t xs) (λ i x. same x i)

pub filter_same : {X : Type 0} (p q : X → Bool) → ((x : X) → p x ≡ q x) → (xs : List X) → filter p xs ≡ filter q xs
filter_same {X} p q same xs = ap (λ (t : X → Bool). filter t xs) (λ i x. same x i)

pub filter_all : {X : Type 0} (xs : List X) → filter (λ _. true) xs ≡ xs
filter_all [] = refl
filter_all (x ∷ xs) = ap (λ l. x ∷ l) (filter_all xs)

-- those of them that pass q are those that pass both
pub filter_both : {X : Type 0} (p q : X → Bool) (xs : List X) → filter q (filter p xs) ≡ filter (λ x. p x && q x) xs
filter_both p q [] = refl
filter_both {X} p q (x ∷ xs) = go (p x) (q x) (filter_both p q xs) where
  go : (b c : Bool) → filter q (filter p xs) ≡ filter (λ x. p x && q x) xs
      → filter q (cond b (x ∷ filter p xs) (filter p xs)) ≡ cond (b && q x) (x ∷ filter (λ x. p x && q x) xs) (filter (λ x. p x && q x) xs)
  go true c e = ap (λ l. cond (q x) (x ∷ l) l) e
  go false c e = e

pub count_both : {X : Type 0} (p q : X → Bool) (xs : List X) → count_by q (filter p xs) ≡ count_by (λ x. p x && q x) xs
count_both p q [] = refl
count_both {X} p q (x ∷ xs) = go (p x) (count_both p q xs) ∙ sym (one_more (λ x. p x && q x) x xs) where
  go : (b : Bool) → count_by q (filter p xs) ≡ count_by (λ x. p x && q x) xs
      → count_by q (cond b (x ∷ filter p xs) (filter p xs)) ≡ cond (b && q x) 1 0 + count_by (λ x. p x && q x) xs
  go true e = one_more q x (filter p xs) ∙ ap (λ n. cond (q x) 1 0 + n) e
  go false e = e ∙ sym (zero-add (count_by (λ x. p x && q x) xs))

-- what passes a test that another follows from is counted by that too
pub count_more : {X : Type 0} (p q : X → Bool) → ((x : X) → p x ≡ true → q x ≡ true) → (xs : List X) → count_by p xs ≤ count_by q xs
count_more p q so [] = omega arith
count_more {X} p q so (x ∷ xs) = omega (arith, one_more p x xs, one_more q x xs, step (p x) (q x) (so x), count_more p q so xs) where
  step : (b c : Bool) → (b ≡ true → c ≡ true) → cond b 1 0 ≤ cond c 1 0
  step true true h = omega arith
  step true false h = let e = h refl in absurd cc
  step false c h = omega arith

-- ---- a value behind a list

pub begins_with_one : (l : List (List ℕ)) (v : List ℕ) (list : List (List ℕ)) → begins (l ++ v ∷ []) list ≡ (begins l list && has_at (length l) v list)
begins_with_one [] v [] = refl
begins_with_one [] v (w ∷ list) = both (bytes_eq v w) where
  both : (b : Bool) → (b && true) ≡ b
  both true = refl
  both false = refl
begins_with_one (u ∷ l) v [] = refl
begins_with_one (u ∷ l) v (w ∷ list) = go (bytes_eq u w) (begins_with_one l v list) where
  go : (b : Bool) → begins (l ++ v ∷ []) list ≡ (begins l list && has_at (length l) v list)
      → (b && begins (l ++ v ∷ []) list) ≡ ((b && begins l list) && has_at (length l) v list)
  go true e = e
  go false e = refl

-- a list that begins with more begins with less
pub begins_less : (l more list : List (List ℕ)) → begins (l ++ more) list ≡ true → begins l list ≡ true
begins_less [] more list h = refl
begins_less (u ∷ l) more [] h = absurd cc
begins_less (u ∷ l) more (w ∷ list) h = go (bytes_eq u w) (begins_less l more list) h where
  go : (b : Bool) → (begins (l ++ more) list ≡ true → begins l list ≡ true) → (b && begins (l ++ more) list) ≡ true → (b && begins l list) ≡ true
  go true less e = less e
  go false less e = absurd cc

pub backed_less : (f : ℕ) (lists : List (List (List ℕ))) (l more : List (List ℕ)) → IsBacked f lists (l ++ more) → IsBacked f lists l
backed_less f lists l more backed = omega (arith, backed, count_more (begins (l ++ more)) (begins l) (begins_less l more) lists)

-- a list that begins with l is l and something behind it
pub begun : (l list : List (List ℕ)) → begins l list ≡ true → IsPrefix l list
begun [] list h = record { rest = list; is = refl }
begun (u ∷ l) [] h = absurd cc
begun (u ∷ l) (w ∷ list) h = go (bytes_eq u w) refl (begun l list) h where
  go : (b : Bool) → bytes_eq u w ≡ b → (begins l list ≡ true → IsPrefix l list) → (b && begins l list) ≡ true → IsPrefix (u ∷ l) (w ∷ list)
  go true e more h = let p = more h in let same : u ≡ w = (bytes_eq-Decides u w).0 e in
      record { rest = p.rest; is = ap (λ z. z ∷ list) (sym same) ∙ ap (λ zs. u ∷ zs) p.is }
  go false e more h = absurd cc

-- ---- the lists of sources

pub backers_with : {X : Type 0} (lists : X → List (List ℕ)) (xs : List X) (l : List (List ℕ)) (v : List ℕ)
    → backers (map lists xs) (l ++ v ∷ []) ≡ count_by (λ x. has_at (length l) v (lists x)) (filter (λ x. begins l (lists x)) xs)
backers_with lists xs l v =
    count_map (begins (l ++ v ∷ [])) lists xs
    ∙ count_same (λ x. begins (l ++ v ∷ []) (lists x)) (λ x. begins l (lists x) && has_at (length l) v (lists x)) (λ x. begins_with_one l v (lists x)) xs
    ∙ sym (count_both (λ x. begins l (lists x)) (λ x. has_at (length l) v (lists x)) xs)

pub filter_with : {X : Type 0} (lists : X → List (List ℕ)) (xs : List X) (l : List (List ℕ)) (v : List ℕ)
    → filter (λ x. has_at (length l) v (lists x)) (filter (λ x. begins l (lists x)) xs) ≡ filter (λ x. begins (l ++ v ∷ []) (lists x)) xs
filter_with lists xs l v =
    filter_both (λ x. begins l (lists x)) (λ x. has_at (length l) v (lists x)) xs
    ∙ filter_same (λ x. begins l (lists x) && has_at (length l) v (lists x)) (λ x. begins (l ++ v ∷ []) (lists x)) (λ x. sym (begins_with_one l v (lists x))) xs
