-- What is counted in a list.
use Rattle.std.proofs.Common.{◌≡◌, ℕ, zero, suc, ◌+◌, ◌<◌, ◌≤◌, Bool, true, false, cond, List, [], ◌∷◌, length, slice_get, Option, Some, None, refl, ap, sym, ◌∙◌, subst, ⊎_elim, zero-add, arith}
use Rattle.std.specs.Option.{option_map_or}
use Rattle.std.specs.List.{count_by}
use Rattle.std.specs.Str.{bytes_eq}
use Rattle.std.proofs.lemmas.Bool.{cases_Bool, cases_lt}
use Rattle.std.proofs.lemmas.Option.{slice_get_past}
use Rattle.std.proofs.lemmas.List.Sums.{sum_by-cons}
use Rattle.std.proofs.lemmas.Slice.Eq.{bytes_eq-Decides}
use Rattle.pay_group.specs.Backing.{has_at}

pub one_more : {X : Type 0} (p : X → Bool) (x : X) (xs : List X) → count_by p (x ∷ xs) ≡ cond (p x) 1 0 + count_by p xs
one_more p x xs = sum_by-cons (λ y. cond (p y) 1 0) x xs

-- where something is counted there is one that passes
pub counted : {X : Type 0} (p : X → Bool) (xs : List X) → 0 < count_by p xs → (i : ℕ) × (x : X) × (slice_get xs i ≡ Some x) × (p x ≡ true)
counted p [] some = absurd (omega (arith, some))
counted p (x ∷ xs) some = ⊎_elim
    (λ yes. (zero, x, refl, yes))
    (λ no. let rest : 0 < count_by p xs = subst (λ n. 0 < n) (one_more p x xs ∙ ap (λ b. cond b 1 0 + count_by p xs) no ∙ zero-add (count_by p xs)) some in
    let found = counted p xs rest in (suc found.0, found.1, found.2, found.3))
    (cases_Bool (p x))

-- the value that a list has at a place
pub had : (place : ℕ) (v w : List ℕ) (list : List (List ℕ)) → slice_get list place ≡ Some w → has_at place v list ≡ bytes_eq v w
had place v w list at = ap (λ o. option_map_or (λ u. bytes_eq v u) o false) at

pub value_had : (place : ℕ) (v : List ℕ) (list : List (List ℕ)) → has_at place v list ≡ true → slice_get list place ≡ Some v
value_had place v list h = go (slice_get list place) h where
  go : (o : Option (List ℕ)) → option_map_or (λ w. bytes_eq v w) o false ≡ true → o ≡ Some v
  go None h = absurd cc
  go (Some w) h = ap Some (sym ((bytes_eq-Decides v w).0 h))

-- where whatever stands at the place has few lists, so has every value
pub few : {X : Type 0} (lists : X → List (List ℕ)) (xs : List X) (place f : ℕ) (v : List ℕ)
    → ((i : ℕ) (x : X) → slice_get xs i ≡ Some x → slice_get (lists x) place ≡ Some v → count_by (λ y. has_at place v (lists y)) xs ≤ f)
    → count_by (λ y. has_at place v (lists y)) xs ≤ f
few lists xs place f v each = ⊎_elim
    (λ many. let found = counted (λ y. has_at place v (lists y)) xs (omega (arith, many)) in
    each found.0 found.1 found.2 (value_had place v (lists found.1) found.3))
    (λ le. le)
    (cases_lt f (count_by (λ y. has_at place v (lists y)) xs))

pub had_not : (place : ℕ) (v : List ℕ) (list : List (List ℕ)) → length list ≤ place → has_at place v list ≡ false
had_not place v list past = ap (λ o. option_map_or (λ u. bytes_eq v u) o false) (slice_get_past list place past)
