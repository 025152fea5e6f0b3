-- Accounts' lists place by place, and what follows from that alone.
use Rattle.std.proofs.Common.{◌≡◌, ◌≢◌, ℕ, zero, suc, ◌+◌, ◌<◌, ◌≤◌, Bool, true, false, cond, ltb, List, [], length, slice_get, Option, None, Some, refl, sym, ap, ap₂, ◌∙◌, arith, zero-add, lt-ltb, ltb-true, le-ltb}
use Rattle.std.proofs.lemmas.Bool.{cond-true, cond-false}
use Rattle.pay_channel.specs.History.{seqs, known_from, listed_values, delivered_at, list_of}
use Rattle.pay_channel.specs.ListLaws.{AreKnown, PlaceIsValue, PlaceIsDelivered, ListedIsDelivered, ListIsShort, ListReaches, ListEnds, EmptyOfNobody, ListIsValues, ListBeginsValues, ListsAlike, ListsCompare}
use Rattle.pay_channel.proofs.Lists.{none_some, slice_get-inside, slice_get-some, prefix_by_place, same_by_place, compare_by_place}
use Rattle.pay_channel.proofs.Grown.{known_from-some, known_from-none}

-- ---- what stands at a place of the values from s on

abbrev StandsAt : (ℕ → Option (List ℕ)) → ℕ → ℕ → ℕ → List ℕ → Type 0
StandsAt at s n k v = (k < n) × ((j : ℕ) → j < k → at (s + j) ≢ None) × (at (s + k) ≡ Some v)

known-before : (at : ℕ → Option (List ℕ)) (s i : ℕ) (w : List ℕ) → at s ≡ Some w → ((j : ℕ) → j < i → at ((s + 1) + j) ≢ None) → (j : ℕ) → j < suc i → at (s + j) ≢ None
known-before at s i w is rest zero below none =
    let place : s + zero ≡ s = omega arith in
    none_some w (sym none ∙ ap at place ∙ is)
known-before at s i w is rest (suc j) below none =
    let place : (s + 1) + j ≡ s + suc j = omega arith in
    rest j (omega arith) (ap at place ∙ none)

known-place : (at : ℕ → Option (List ℕ)) (s n k : ℕ) (v : List ℕ) → slice_get (known_from at s n) k ≡ Some v → StandsAt at s n k v
unfolding known_from
known-place at s zero k v found = absurd (none_some v found)
known-place at s (suc n) k v found = go (at s) refl k found (known-place at (s + 1) n) where
  go : (o : Option (List ℕ)) → at s ≡ o → (i : ℕ) → slice_get (known_from at s (suc n)) i ≡ Some v
      → ((j : ℕ) (w : List ℕ) → slice_get (known_from at (s + 1) n) j ≡ Some w → StandsAt at (s + 1) n j w) → StandsAt at s (suc n) i v
  go None is i there rest = absurd (none_some v (sym (ap (λ (xs : List (List ℕ)). slice_get xs i) (known_from-none at s n is)) ∙ there))
  go (Some w) is zero there rest =
      let here : Some w ≡ Some v = sym (ap (λ (xs : List (List ℕ)). slice_get xs zero) (known_from-some at s n w is)) ∙ there in
      let place : s + zero ≡ s = omega arith in
      (omega arith, (λ j below. absurd (omega arith)), ap at place ∙ is ∙ here)
  go (Some w) is (suc i) there rest =
      let later = rest i v (sym (ap (λ (xs : List (List ℕ)). slice_get xs (suc i)) (known_from-some at s n w is)) ∙ there) in
      let place : s + suc i ≡ (s + 1) + i = omega arith in
      (omega (arith, later.0), known-before at s i w is later.1, ap at place ∙ later.2)

known-there : (at : ℕ → Option (List ℕ)) (s n k : ℕ) (v : List ℕ) → k < n → ((j : ℕ) → j < k → at (s + j) ≢ None) → at (s + k) ≡ Some v → slice_get (known_from at s n) k ≡ Some v
unfolding known_from
known-there at s zero k v below before is = absurd (omega arith)
known-there at s (suc n) zero v below before is =
    let place : s ≡ s + zero = omega arith in
    ap (λ (xs : List (List ℕ)). slice_get xs zero) (known_from-some at s n v (ap at place ∙ is))
known-there at s (suc n) (suc k) v below before is = go (at s) refl (known-there at (s + 1) n k v (omega arith) later (ap at place ∙ is)) where
  place : (s + 1) + k ≡ s + suc k
  place = omega arith

  later : (j : ℕ) → j < k → at ((s + 1) + j) ≢ None
  later j lt none =
      let next : s + suc j ≡ (s + 1) + j = omega arith in
      before (suc j) (omega arith) (ap at next ∙ none)

  go : (o : Option (List ℕ)) → at s ≡ o → slice_get (known_from at (s + 1) n) k ≡ Some v → slice_get (known_from at s (suc n)) (suc k) ≡ Some v
  go None none rest =
      let first : s + zero ≡ s = omega arith in
      absurd (before zero (omega arith) (ap at first ∙ none))
  go (Some w) found rest = ap (λ (xs : List (List ℕ)). slice_get xs (suc k)) (known_from-some at s n w found) ∙ rest

-- ---- of an account, if there is one

pub place_is_value : PlaceIsValue
unfolding listed_values
place_is_value g at a k v = (there (ltb a g.members) (ltb-true a g.members), back) where
  there : (b : Bool) → (b ≡ true → a < g.members) → slice_get (cond b (known_from (at a) 0 seqs) []) k ≡ Some v → (a < g.members) × (k < seqs) × AreKnown (at a) k × (at a k ≡ Some v)
  there true member found =
      let is = known-place (at a) 0 seqs k v found in
      (member refl, is.0, (λ j below none. is.1 j below (ap (at a) (zero-add j) ∙ none)), sym (ap (at a) (zero-add k)) ∙ is.2)
  there false member found = absurd (none_some v found)

  back : (a < g.members) × (k < seqs) × AreKnown (at a) k × (at a k ≡ Some v) → slice_get (cond (ltb a g.members) (known_from (at a) 0 seqs) []) k ≡ Some v
  back (member, below, before, is) =
      ap (λ (xs : List (List ℕ)). slice_get xs k) (cond-true (ltb a g.members) (known_from (at a) 0 seqs) [] (lt-ltb a g.members member))
      ∙ known-there (at a) 0 seqs k v below (λ j lt none. before j lt (sym (ap (at a) (zero-add j)) ∙ none)) (ap (at a) (zero-add k) ∙ is)

pub place_is_delivered : PlaceIsDelivered
unfolding list_of
place_is_delivered g history a k v = place_is_value g (delivered_at g history) a k v

pub listed_is_delivered : ListedIsDelivered
listed_is_delivered g history a k v found = ((place_is_delivered g history a k v).0 found).3

-- ---- where it ends

known-some : (o : Option (List ℕ)) → o ≢ None → (v : List ℕ) × (o ≡ Some v)
known-some None known = absurd (known refl)
known-some (Some v) known = (v, refl)

pub list_reaches : ListReaches
list_reaches g history a n member few = (reached, known n few) where
  reached : n ≤ length (list_of g history a) → AreKnown (delivered_at g history a) n
  reached long s below none =
      let found = slice_get-some (list_of g history a) s (omega arith) in
      none_some found.0 (sym none ∙ listed_is_delivered g history a s found.0 found.1)

  known : (m : ℕ) → m ≤ seqs → AreKnown (delivered_at g history a) m → m ≤ length (list_of g history a)
  known zero within all = omega arith
  known (suc m) within all =
      let last = known-some (delivered_at g history a m) (all m (omega arith)) in
      let before : AreKnown (delivered_at g history a) m = λ s below. all s (omega arith) in
      let inside = slice_get-inside (list_of g history a) m last.0 ((place_is_delivered g history a m last.0).1 (member, omega arith, before, last.1)) in
      omega arith

pub list_is_short : ListIsShort
list_is_short g history a = go (length (list_of g history a)) refl where
  go : (n : ℕ) → length (list_of g history a) ≡ n → length (list_of g history a) ≤ seqs
  go zero is = omega arith
  go (suc n) is =
      let last = slice_get-some (list_of g history a) n (omega arith) in
      let below = ((place_is_delivered g history a n last.0).0 last.1).1 in
      omega arith

pub list_ends : ListEnds
list_ends g history a member short = go (delivered_at g history a (length (list_of g history a))) refl where
  go : (o : Option (List ℕ)) → delivered_at g history a (length (list_of g history a)) ≡ o → delivered_at g history a (length (list_of g history a)) ≡ None
  go None is = is
  go (Some v) is =
      let before = (list_reaches g history a (length (list_of g history a)) member (omega arith)).0 (omega arith) in
      let inside = slice_get-inside (list_of g history a) (length (list_of g history a)) v ((place_is_delivered g history a (length (list_of g history a)) v).1 (member, short, before, is)) in
      absurd (omega arith)

pub empty_of_nobody : EmptyOfNobody
unfolding list_of listed_values
empty_of_nobody g history a past = cond-false (ltb a g.members) (known_from (delivered_at g history a) 0 seqs) [] (le-ltb a g.members past)

-- ---- a list and given values

pub list_begins_values : ListBeginsValues
list_begins_values g history a values only =
    prefix_by_place (list_of g history a) values (λ k v found. only k v (listed_is_delivered g history a k v found))

pub list_is_values : ListIsValues
list_is_values g history a values member few same =
    same_by_place (list_of g history a) values
    (λ k v found. sym (same k) ∙ listed_is_delivered g history a k v found)
    (λ k v found. (place_is_delivered g history a k v).1
    (member, below k v found, (λ j lt none. let there = slice_get-some values j (earlier k v found j lt) in none_some there.0 (sym none ∙ same j ∙ there.1)), same k ∙ found)) where
      below : (k : ℕ) (v : List ℕ) → slice_get values k ≡ Some v → k < seqs
      below k v found = let inside = slice_get-inside values k v found in omega arith

      earlier : (k : ℕ) (v : List ℕ) → slice_get values k ≡ Some v → (j : ℕ) → j < k → j < length values
      earlier k v found j lt = let inside = slice_get-inside values k v found in omega arith

-- ---- two lists

pub lists_alike : ListsAlike
unfolding list_of listed_values
lists_alike g h one other a members same =
    let values : delivered_at g one a ≡ delivered_at h other a = λ i s. same s i in
    ap₂ (λ (n : ℕ) (at : ℕ → Option (List ℕ)). cond (ltb a n) (known_from at 0 seqs) []) members values

pub lists_compare : ListsCompare
lists_compare g h one other a agree =
    compare_by_place (list_of g one a) (list_of h other a)
    (λ k v u p q. agree k v u (listed_is_delivered g one a k v p) (listed_is_delivered h other a k u q))
