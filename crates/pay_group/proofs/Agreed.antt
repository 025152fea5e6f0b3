-- The sources that agree so far, and what more than f of them list next.
use Rattle.std.proofs.Common.{◌≡◌, ◌≢◌, ℕ, zero, suc, ◌+◌, ◌<◌, ◌≤◌, Bool, true, false, List, [], ◌∷◌, ◌++◌, length, map, take, slice_get, slice_index_or, Some, refl, ap, sym, ◌∙◌, subst, ⊎_elim, append-nil, length-append, arith}
use Rattle.std.specs.List.{All, count_by, filter}
use Rattle.std.specs.Str.{bytes_eq}
use Rattle.std.proofs.lemmas.Bool.{cases_Bool, cases_lt}
use Rattle.std.proofs.lemmas.Option.{get_or_from_slice_get, slice_get_read, slice_get_within}
use Rattle.std.proofs.lemmas.Slice.Eq.{bytes_eq-Decides}
use Rattle.std.proofs.Math.Seq.{take-append_seam}
use Rattle.std.proofs.lemmas.List.{append_assoc}
use Rattle.std.proofs.lemmas.List.Elements.{All-filter, filter_passes}
use Rattle.std.proofs.lemmas.List.Sums.{length-filter}
use Rattle.pay_channel.specs.Prefix.{IsPrefix}
use Rattle.pay_group.specs.Backing.{begins, backers, has_at, IsBacked, IsGroupList, IsSplit}
use Rattle.pay_group.proofs.Begins.{backed_less, backers_with, begun, count_map, filter_all, filter_with}
use Rattle.pay_group.proofs.Counting.{counted, value_had}

-- Of these sources those in agreeing begin with a list of so many values. More than f of them do, and no other backed list
-- is as short.
pub record Agree {X : Type 0} (lists : X → List (List ℕ)) (xs : List X) (f place : ℕ) (agreeing : List X) : Type 0 where
  pub before : List (List ℕ)
  pub at : length before ≡ place
  pub is : agreeing ≡ filter (λ x. begins before (lists x)) xs
  pub many : f < length agreeing
  pub first : (m : List (List ℕ)) → IsBacked f (map lists xs) m → length m ≤ place → IsPrefix m before

-- how many list a value next
abbrev pub next_backers : {X : Type 0} → (X → List (List ℕ)) → ℕ → List X → List ℕ → ℕ
next_backers lists place agreeing v = count_by (λ x. has_at place v (lists x)) agreeing

pub none_yet : {X : Type 0} (lists : X → List (List ℕ)) (xs : List X) (f : ℕ) → f < length xs → Agree lists xs f 0 xs
none_yet lists xs f many = record {
  before = [];
  at = refl;
  is = sym (filter_all xs);
  many = many;
  first = λ m backed short. empty m short;
} where
  empty : (m : List (List ℕ)) → length m ≤ 0 → IsPrefix m []
  empty [] short = record { rest = []; is = refl }
  empty (v ∷ m) short = absurd (omega (arith, short))

-- a backed value behind what is agreed is one that more than f list next
pub backed_next : {X : Type 0} (lists : X → List (List ℕ)) (xs : List X) (f place : ℕ) (agreeing : List X) (a : Agree lists xs f place agreeing) (v : List ℕ)
    → backers (map lists xs) (a.before ++ v ∷ []) ≡ next_backers lists place agreeing v
backed_next lists xs f place agreeing a v =
    backers_with lists xs a.before v
    ∙ ap (λ n. count_by (λ x. has_at n v (lists x)) (filter (λ x. begins a.before (lists x)) xs)) a.at
    ∙ ap (λ l. count_by (λ x. has_at place v (lists x)) l) (sym a.is)

nothing : (rest : List (List ℕ)) → length rest ≡ 0 → rest ≡ []
nothing [] h = refl
nothing (v ∷ rest) h = absurd (omega (arith, h))

differ : (v w : List ℕ) → bytes_eq v w ≡ false → v ≢ w
differ v w h same = let e : bytes_eq v w ≡ true = (bytes_eq-Decides v w).1 same in let c : true ≡ false = sym e ∙ h in absurd cc

-- what begins with a list of its own length is that list
same_length : (l m : List (List ℕ)) (p : IsPrefix m l) → length m ≡ length l → m ≡ l
same_length l m p e = sym (p.is ∙ ap (λ r. m ++ r) (nothing p.rest (omega (arith, e, ap (λ (z : List (List ℕ)). length z) p.is, length-append m p.rest))) ∙ append-nil m)

-- the first values of a list, the next, and the others
cut : (n : ℕ) (m : List (List ℕ)) → n < length m → (v : List ℕ) × (rest : List (List ℕ)) × (m ≡ (take n m ++ v ∷ []) ++ rest) × (length (take n m) ≡ n)
cut zero [] longer = absurd (omega (arith, longer))
cut zero (v ∷ m) longer = (v, m, refl, refl)
cut (suc n) [] longer = absurd (omega (arith, longer))
cut (suc n) (u ∷ m) longer = let c = cut n m (omega (arith, longer)) in (c.0, c.1, ap (λ l. u ∷ l) c.2, ap suc c.3)

-- a backed list that is longer goes on from what is agreed with a value that more than f list next
pub goes_on : {X : Type 0} (lists : X → List (List ℕ)) (xs : List X) (f place : ℕ) (agreeing : List X) (a : Agree lists xs f place agreeing) (m : List (List ℕ))
    → IsBacked f (map lists xs) m → place < length m
    → (v : List ℕ) × (rest : List (List ℕ)) × (m ≡ (a.before ++ v ∷ []) ++ rest) × (f < next_backers lists place agreeing v)
goes_on lists xs f place agreeing a m backed longer =
    let all = map lists xs in
    let c = cut place m longer in
    let one : IsBacked f all (take place m ++ c.0 ∷ []) = backed_less f all (take place m ++ c.0 ∷ []) c.1 (subst (IsBacked f all) c.2 backed) in
    let first : IsBacked f all (take place m) = backed_less f all (take place m) (c.0 ∷ []) one in
    let same : take place m ≡ a.before = same_length a.before (take place m) (a.first (take place m) first (omega (arith, c.3))) (c.3 ∙ sym a.at) in (
      c.0,
      c.1,
      c.2 ∙ ap (λ l. (l ++ c.0 ∷ []) ++ c.1) same,
      subst (λ n. f < n) (ap (λ l. backers all (l ++ c.0 ∷ [])) same ∙ backed_next lists xs f place agreeing a c.0) one,
    )

longer_prefix : (m before : List (List ℕ)) (v : List ℕ) → IsPrefix m before → IsPrefix m (before ++ v ∷ [])
longer_prefix m before v p = record { rest = p.rest ++ v ∷ []; is = ap (λ l. l ++ v ∷ []) p.is ∙ append_assoc m p.rest (v ∷ []) }

-- one value more is agreed where no other is
pub one_more_agreed : {X : Type 0} (lists : X → List (List ℕ)) (xs : List X) (f place : ℕ) (agreeing new : List X) (v : List ℕ)
    → Agree lists xs f place agreeing → f < next_backers lists place agreeing v
    → ((w : List ℕ) → v ≢ w → next_backers lists place agreeing w ≤ f)
    → new ≡ filter (λ x. has_at place v (lists x)) agreeing → Agree lists xs f (place + 1) new
one_more_agreed {X} lists xs f place agreeing new v a many others is = record {
  before = a.before ++ v ∷ [];
  at = length-append a.before (v ∷ []) ∙ ap (λ n. n + 1) a.at;
  is = here;
  many = subst (λ n. f < n) (sym (ap length is ∙ length-filter (λ x. has_at place v (lists x)) agreeing)) many;
  first = λ m backed short. ⊎_elim
      (λ longer. let on = goes_on lists xs f place agreeing a m backed longer in only m on.0 on.1 on.2 on.3 short)
      (λ shorter. longer_prefix m a.before v (a.first m backed shorter))
      (cases_lt place (length m));
} where
  here : new ≡ filter (λ x. begins (a.before ++ v ∷ []) (lists x)) xs
  here = is ∙ ap (filter (λ x. has_at place v (lists x))) a.is
      ∙ ap (λ n. filter (λ x. has_at n v (lists x)) (filter (λ x. begins a.before (lists x)) xs)) (sym a.at)
      ∙ filter_with lists xs a.before v

  only : (m : List (List ℕ)) (w : List ℕ) (rest : List (List ℕ)) → m ≡ (a.before ++ w ∷ []) ++ rest → f < next_backers lists place agreeing w
      → length m ≤ place + 1 → IsPrefix m (a.before ++ v ∷ [])
  only m w rest on backed short = ⊎_elim
      (λ same. let m_is : m ≡ a.before ++ w ∷ [] = on ∙ ap (λ r. (a.before ++ w ∷ []) ++ r) (nothing rest (omega (arith, short, ap (λ (z : List (List ℕ)). length z) on, length-append (a.before ++ w ∷ []) rest, length-append a.before (w ∷ []), a.at))) ∙ append-nil (a.before ++ w ∷ []) in
      record { rest = []; is = ap (λ u. a.before ++ u ∷ []) ((bytes_eq-Decides v w).0 same) ∙ sym m_is ∙ sym (append-nil m) })
      (λ other. absurd (omega (arith, backed, others w (differ v w other))))
      (cases_Bool (bytes_eq v w))

-- what is left of a list by a test passes it
passes : {X : Type 0} (p : X → Bool) (xs : List X) (x : X) (i : ℕ) → slice_get (filter p xs) i ≡ Some x → p x ≡ true
passes p xs x i at =
    subst (λ y. p y ≡ true) (get_or_from_slice_get (filter p xs) i x x at) (filter_passes p xs i x (slice_get_within (filter p xs) i x at))

-- the list that the agreeing ones begin with
pub agreed_list : {X : Type 0} (lists : X → List (List ℕ)) (xs : List X) (f place : ℕ) (agreeing : List X) (a : Agree lists xs f place agreeing) (x : X)
    → slice_get agreeing 0 ≡ Some x → IsPrefix a.before (lists x)
agreed_list lists xs f place agreeing a x at =
    let at_filter : slice_get (filter (λ y. begins a.before (lists y)) xs) 0 ≡ Some x = ap (λ l. slice_get l 0) (sym a.is) ∙ at in
    begun a.before (lists x) (passes (λ y. begins a.before (lists y)) xs x 0 at_filter)

pub agreed_backed : {X : Type 0} (lists : X → List (List ℕ)) (xs : List X) (f place : ℕ) (agreeing : List X) (a : Agree lists xs f place agreeing)
    → IsBacked f (map lists xs) a.before
agreed_backed lists xs f place agreeing a =
    subst (λ n. f < n) (ap length a.is ∙ length-filter (λ x. begins a.before (lists x)) xs ∙ sym (count_map (begins a.before) lists xs)) a.many

-- Where nothing is backed next, or no list is longer, what is agreed is the group's list.
pub is_group_list : {X : Type 0} (lists : X → List (List ℕ)) (xs : List X) (f place : ℕ) (agreeing : List X) (a : Agree lists xs f place agreeing)
    → ((v : List ℕ) → next_backers lists place agreeing v ≤ f) → IsGroupList f (map lists xs) a.before
is_group_list lists xs f place agreeing a none = record {
  backed = agreed_backed lists xs f place agreeing a;
  longest = λ m backed. ⊎_elim
      (λ longer. let on = goes_on lists xs f place agreeing a m backed longer in absurd (omega (arith, on.3, none on.0)))
      (λ shorter. a.first m backed shorter)
      (cases_lt place (length m));
}

-- no list is longer than what is agreed: nothing is next
pub none_longer : {X : Type 0} (lists : X → List (List ℕ)) (agreeing : List X) (f place : ℕ)
    → ((i : ℕ) (x : X) → slice_get agreeing i ≡ Some x → length (lists x) ≤ place) → (v : List ℕ) → next_backers lists place agreeing v ≤ f
none_longer lists agreeing f place short v = ⊎_elim
    (λ many. let found = counted (λ x. has_at place v (lists x)) agreeing (omega (arith, many)) in
    absurd (omega (arith, short found.0 found.1 found.2, slice_get_within (lists found.1) place v (value_had place v (lists found.1) found.3))))
    (λ le. le)
    (cases_lt f (next_backers lists place agreeing v))

-- the list as much of a source's
pub as_much : {X : Type 0} (lists : X → List (List ℕ)) (xs : List X) (f place : ℕ) (agreeing : List X) (a : Agree lists xs f place agreeing) (x : X)
    → slice_get agreeing 0 ≡ Some x → (place ≤ length (lists x)) × (take place (lists x) ≡ a.before)
as_much lists xs f place agreeing a x at =
    let p = agreed_list lists xs f place agreeing a x at in (
      omega (arith, ap (λ (z : List (List ℕ)). length z) p.is, length-append a.before p.rest, a.at),
      ap (take place) p.is ∙ ap (λ n. take n (a.before ++ p.rest)) (sym a.at) ∙ take-append_seam a.before p.rest,
    )

-- the first of those that agree
pub first_of : {X : Type 0} {lists : X → List (List ℕ)} {xs : List X} {f place : ℕ} {agreeing : List X} → Agree lists xs f place agreeing → (x : X)
    → x ≡ slice_index_or agreeing 0 x → slice_get agreeing 0 ≡ Some x
first_of {agreeing = agreeing} a x is = slice_get_read agreeing (length agreeing) 0 x refl (omega (arith, a.many)) is

-- two values that are backed next
pub split_at : {X : Type 0} (lists : X → List (List ℕ)) (xs : List X) (f place : ℕ) (agreeing : List X) (v w : List ℕ) (a : Agree lists xs f place agreeing)
    → v ≢ w → f < next_backers lists place agreeing v → f < next_backers lists place agreeing w → IsSplit f (map lists xs) place
split_at lists xs f place agreeing v w a differ one other = record {
  before = a.before;
  at = a.at;
  one = v;
  other = w;
  differ = differ;
  one_backed = subst (λ n. f < n) (sym (backed_next lists xs f place agreeing a v)) one;
  other_backed = subst (λ n. f < n) (sym (backed_next lists xs f place agreeing a w)) other;
  first = a.first;
}

-- a bound of all lists is one of those that agree
pub short_lists : {X : Type 0} (lists : X → List (List ℕ)) (xs : List X) (f place : ℕ) (agreeing : List X) (a : Agree lists xs f place agreeing) (n : ℕ)
    → All (λ x. length (lists x) ≤ n) xs → (i : ℕ) (x : X) → slice_get agreeing i ≡ Some x → length (lists x) ≤ n
short_lists lists xs f place agreeing a n all i x at =
    let some = subst (All (λ x. length (lists x) ≤ n)) (sym a.is) (All-filter (λ x. begins a.before (lists x)) (λ x. length (lists x) ≤ n) xs all) in
    subst (λ y. length (lists y) ≤ n) (get_or_from_slice_get agreeing i x x at) (some i x (slice_get_within agreeing i x at))
