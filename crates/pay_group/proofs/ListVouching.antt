-- Laws of groups' lists.
use Rattle.std.proofs.Common.{◌≡◌, ◌≢◌, ◌⊎◌, ℕ, zero, suc, ◌+◌, ◌<◌, ◌≤◌, inl, inr, Bool, true, false, not, ◌&&◌, cond, List, [], ◌∷◌, ◌++◌, get_or, length, map, slice_get, Option, Some, None, refl, ap, sym, ◌∙◌, subst, ⊎_elim, append-nil, length-append, arith}
use Rattle.std.specs.List.{count_by, filter}
use Rattle.std.specs.Str.{bytes_eq}
use Rattle.std.proofs.lemmas.Bool.{cases_Bool, cases_lt}
use Rattle.std.proofs.lemmas.List.Elements.{All-filter}
use Rattle.std.proofs.lemmas.Option.{get_or_from_slice_get, none-some, slice_get-get_or, same_Some, slice_get_within}
use Rattle.std.proofs.lemmas.Slice.Eq.{bytes_eq-Decides}
use Rattle.pay_channel.specs.Prefix.{IsPrefix}
use Rattle.pay_group.specs.Backing.{begins, has_at, IsGroupList, IsSplit}
use Rattle.pay_group.specs.ListLaws.{BackedIsListed, BackedIsVouchedFor, ListOrSplit, NoListOfASplit, OneGroupList}
use Rattle.pay_group.proofs.Agreed.{Agree, is_group_list, next_backers, none_longer, none_yet, one_more_agreed, split_at}
use Rattle.pay_group.proofs.Begins.{begun, count_map}
use Rattle.pay_group.proofs.Counting.{counted, few, one_more}

-- ---- a correct member has it

-- what passes p passes q or fails r
count_split : {X : Type 0} (p r : X → Bool) (xs : List X) → count_by p xs ≤ count_by (λ x. p x && r x) xs + count_by (λ x. not (r x)) xs
count_split p r [] = omega arith
count_split {X} p r (x ∷ xs) =
    omega (arith, one_more p x xs, one_more (λ x. p x && r x) x xs, one_more (λ x. not (r x)) x xs, step (p x) (r x), count_split p r xs) where
      step : (b c : Bool) → cond b 1 0 ≤ cond (b && c) 1 0 + cond (not c) 1 0
      step true true = omega arith
      step true false = omega arith
      step false c = omega arith

both_true : (b c : Bool) → (b && c) ≡ true → (b ≡ true) × (c ≡ true)
both_true true true h = (refl, refl)
both_true true false h = absurd cc
both_true false c h = absurd cc

pub vouched_for : BackedIsVouchedFor
vouched_for f members l few backed =
    let some : f < count_by (λ m. begins l m.1) members = subst (λ n. f < n) (count_map (begins l) (λ m. m.1) members) backed in
    let found = counted (λ m. begins l m.1 && m.0) members (omega (arith, some, few, count_split (λ m. begins l m.1) (λ m. m.0) members)) in
    let is = both_true (begins l found.1.1) found.1.0 found.3 in
    (found.1, (found.0, slice_get_within members found.0 found.1 found.2, get_or_from_slice_get members found.0 found.1 found.1 found.2), is.1, begun l found.1.1 is.0)

pub backed_listed : BackedIsListed
backed_listed f lists l backed =
    let found = counted (begins l) lists (omega (arith, backed)) in
    (found.0, found.1, found.2, begun l found.1 found.3)

-- ---- one list, or a split

empty_rest : (l : List (List ℕ)) (p q : List (List ℕ)) → (l ++ p) ++ q ≡ l → p ≡ []
empty_rest l [] q e = refl
empty_rest l (v ∷ p) q e = absurd (omega (arith, ap (λ (z : List (List ℕ)). length z) e, length-append (l ++ v ∷ p) q, length-append l (v ∷ p)))

pub one_list : OneGroupList
one_list f lists l m is_l is_m =
    let p = is_m.longest l is_l.backed in
    let q = is_l.longest m is_m.backed in
    let nothing : p.rest ≡ [] = empty_rest l p.rest q.rest (sym (q.is ∙ ap (λ z. z ++ q.rest) p.is)) in
    sym (p.is ∙ ap (λ r. l ++ r) nothing ∙ append-nil l)

-- a list has one value at a place
one_value : (before : List (List ℕ)) (v w : List ℕ) (l : List (List ℕ)) → IsPrefix (before ++ v ∷ []) l → IsPrefix (before ++ w ∷ []) l → v ≡ w
one_value [] v w [] p q = absurd (let e = p.is in cc)
one_value [] v w (x ∷ l) p q = let e = p.is in let h = q.is in cc
one_value (b ∷ before) v w [] p q = absurd (let e = p.is in cc)
one_value (b ∷ before) v w (x ∷ l) p q =
    one_value before v w l (record { rest = p.rest; is = tail p.is }) (record { rest = q.rest; is = tail q.is }) where
      tail : {x y : List ℕ} {xs ys : List (List ℕ)} → x ∷ xs ≡ y ∷ ys → xs ≡ ys
      tail e = cc

pub not_both : NoListOfASplit
not_both f lists l place is split =
    split.differ (one_value split.before split.one split.other l (is.longest (split.before ++ split.one ∷ []) split.one_backed) (is.longest (split.before ++ split.other ∷ []) split.other_backed))

-- ---- there is one

abbrev Lists : Type 0
Lists = List (List (List ℕ))

abbrev same : List (List ℕ) → List (List ℕ)
same l = l

-- a value that is backed next and passes a test, or none at the places of these lists
abbrev Next : Lists → ℕ → ℕ → (List ℕ → Bool) → Lists → Type 0
Next agreeing f place test ys =
    ((v : List ℕ) × (test v ≡ true) × (f < next_backers same place agreeing v))
    ⊎ ((i : ℕ) (x : List (List ℕ)) (v : List ℕ) → slice_get ys i ≡ Some x → slice_get x place ≡ Some v → test v ≡ true → next_backers same place agreeing v ≤ f)

abbrev None_at : Lists → ℕ → ℕ → (List ℕ → Bool) → List (List ℕ) → Type 0
None_at agreeing f place test y = (v : List ℕ) → slice_get y place ≡ Some v → test v ≡ true → next_backers same place agreeing v ≤ f

at_one : (agreeing : Lists) (f place : ℕ) (test : List ℕ → Bool) (y : List (List ℕ))
    → ((v : List ℕ) × (test v ≡ true) × (f < next_backers same place agreeing v)) ⊎ None_at agreeing f place test y
at_one agreeing f place test y = go (slice_get y place) refl where
  go : (o : Option (List ℕ)) → slice_get y place ≡ o → ((v : List ℕ) × (test v ≡ true) × (f < next_backers same place agreeing v)) ⊎ None_at agreeing f place test y
  go None at = inr (λ v is passes. absurd (none-some v (sym at ∙ is)))
  go (Some w) at = ⊎_elim
      (λ passes. ⊎_elim
      (λ many. inl (w, passes, many))
      (λ few. inr (λ v is _. subst (λ u. next_backers same place agreeing u ≤ f) (same_Some w v (sym at ∙ is)) few))
      (cases_lt f (next_backers same place agreeing w)))
      (λ fails. inr (λ v is passes. absurd (let c : true ≡ false = sym passes ∙ ap test (sym (same_Some w v (sym at ∙ is))) ∙ fails in cc)))
      (cases_Bool (test w))

next : (agreeing : Lists) (f place : ℕ) (test : List ℕ → Bool) (ys : Lists) → Next agreeing f place test ys
next agreeing f place test [] = inr (λ i x v at. absurd (none-some x at))
next agreeing f place test (y ∷ ys) = ⊎_elim
    inl
    (λ here. ⊎_elim inl (λ later. inr (λ i x v at had passes. both here later i x v at had passes)) (next agreeing f place test ys))
    (at_one agreeing f place test y) where
      both : None_at agreeing f place test y
          → ((i : ℕ) (x : List (List ℕ)) (v : List ℕ) → slice_get ys i ≡ Some x → slice_get x place ≡ Some v → test v ≡ true → next_backers same place agreeing v ≤ f)
          → (i : ℕ) (x : List (List ℕ)) (v : List ℕ) → slice_get (y ∷ ys) i ≡ Some x → slice_get x place ≡ Some v → test v ≡ true → next_backers same place agreeing v ≤ f
      both here later zero x v at had passes = here v (subst (λ z. slice_get z place ≡ Some v) (sym (same_Some y x at)) had) passes
      both here later (suc i) x v at had passes = later i x v at had passes

abbrev Answer : ℕ → Lists → Type 0
Answer f lists = ((l : List (List ℕ)) × IsGroupList f lists l) ⊎ ((place : ℕ) × IsSplit f lists place)

map_same : (lists : Lists) → map same lists ≡ lists
map_same [] = refl
map_same (l ∷ lists) = ap (λ ls. l ∷ ls) (map_same lists)

-- not this value
other_than : List ℕ → List ℕ → Bool
other_than v w = not (bytes_eq v w)

other : (v w : List ℕ) → v ≢ w → other_than v w ≡ true
unfolding other_than
other v w differ = ⊎_elim (λ yes. absurd (differ ((bytes_eq-Decides v w).0 yes))) (λ no. ap not no) (cases_Bool (bytes_eq v w))

differs : (v w : List ℕ) → other_than v w ≡ true → v ≢ w
unfolding other_than
differs v w h e = let c : false ≡ true = ap not (sym ((bytes_eq-Decides v w).1 e)) ∙ h in absurd cc

short_filtered : (p : List (List ℕ) → Bool) (xs : Lists) (n : ℕ) → ((i : ℕ) (x : List (List ℕ)) → slice_get xs i ≡ Some x → length x ≤ n)
    → (i : ℕ) (x : List (List ℕ)) → slice_get (filter p xs) i ≡ Some x → length x ≤ n
short_filtered p xs n short i x at =
    let all = All-filter p (λ x. length x ≤ n) xs (λ k d within. short k (get_or xs k d) (slice_get-get_or xs k d within)) in
    subst (λ y. length y ≤ n) (get_or_from_slice_get (filter p xs) i x x at) (all i x (slice_get_within (filter p xs) i x at))

longest_of : (xs : Lists) → (n : ℕ) × ((i : ℕ) (x : List (List ℕ)) → slice_get xs i ≡ Some x → length x ≤ n)
longest_of [] = (0, (λ i x at. absurd (none-some x at)))
longest_of (y ∷ ys) = let rest = longest_of ys in (length y + rest.0, go rest.0 rest.1) where
  go : (n : ℕ) → ((i : ℕ) (x : List (List ℕ)) → slice_get ys i ≡ Some x → length x ≤ n) → (i : ℕ) (x : List (List ℕ)) → slice_get (y ∷ ys) i ≡ Some x → length x ≤ length y + n
  go n short zero x at = omega (arith, ap (λ (z : List (List ℕ)). length z) (same_Some y x at))
  go n short (suc i) x at = omega (arith, short i x at)

seek : (fuel : ℕ) (lists : Lists) (f place : ℕ) (agreeing : Lists) → Agree same lists f place agreeing
    → ((i : ℕ) (x : List (List ℕ)) → slice_get agreeing i ≡ Some x → length x ≤ place + fuel) → Answer f (map same lists)
seek zero lists f place agreeing a short =
    inl (a.before, is_group_list same lists f place agreeing a (none_longer same agreeing f place (λ i x at. omega (arith, short i x at))))
seek (suc fuel) lists f place agreeing a short = ⊎_elim
    (λ one. ⊎_elim
    (λ two. inr (place, split_at same lists f place agreeing one.0 two.0 a (differs one.0 two.0 two.1) one.2 two.2))
    (λ no. let new = filter (λ x. has_at place one.0 x) agreeing in
    seek fuel lists f (place + 1) new
    (one_more_agreed same lists f place agreeing new one.0 a one.2
    (λ w differ. few same agreeing place f w (λ i x at had. no i x w at had (other one.0 w differ))) refl)
    (λ i x at. omega (arith, short_filtered (λ x. has_at place one.0 x) agreeing (place + suc fuel) short i x at)))
    (next agreeing f place (other_than one.0) agreeing))
    (λ none. inl (a.before, is_group_list same lists f place agreeing a (λ v. few same agreeing place f v (λ i x at had. none i x v at had refl))))
    (next agreeing f place (λ _. true) agreeing)

pub exists : ListOrSplit
exists f lists many =
    let bound = longest_of lists in
    subst (Answer f) (map_same lists) (seek bound.0 lists f 0 lists (none_yet same lists f many) (λ i x at. omega (arith, bound.1 i x at)))
