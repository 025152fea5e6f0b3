-- Votes as masks, one for each value.
use Rattle.std.proofs.Common.{◌≡◌, ◌≢◌, ℕ, zero, suc, ◌+◌, ◌<◌, ◌≤◌, ◌^◌, ◌⊎◌, Bool, true, false, cond, List, [], ◌∷◌, ◌++◌, length, map, replicate, get_or, slice_index, refl, ap, ap₂, ◌∙◌, sym, subst, arith, inl, inr}
use Rattle.std.specs.Prelude.{Option, Some, None, slice_set, count_ones}
use Rattle.std.specs.List.{count_by, find, range_with_len}
use Rattle.std.proofs.lemmas.Bool.{cases_eq, cases_lt, cases_Bool, eq-eqb, ne_eqb, both_ways}
use Rattle.std.proofs.lemmas.List.{length-replicate, get_or-replicate, length-set, length-append, get_or-set_same, get_or-set_other, get_or_append_left, get_or_past, get_or_push}
use Rattle.std.proofs.lemmas.List.FromFn.{length-map-range_with_len, get_or-map-range_with_len, fill_by_all}
use Rattle.std.proofs.lemmas.Nat.{or_lt, pow_below}
use Rattle.pay_echo.specs.Broadcast.{size}
use Rattle.pay_echo.specs.Plain.{is_at}
use Rattle.pay_echo.proofs.Lists.{one, count_by-cons, map-same}
use Rattle.pay_echo.specs.Masks.{has, with_process, place_by, votes_by, AreMasks}
use Rattle.pay_echo.proofs.MaskBits.{counts_are_sizes, pow_pos, has-with_same, has-with_other, has-none}

-- the first number of a range that passes, or none passes
find-range : (p : ℕ → Bool) (from n : ℕ) →
    ((find p (range_with_len from n) ≡ None) × ((k : ℕ) → from ≤ k → k < from + n → p k ≡ false))
    ⊎ ((k : ℕ) × (find p (range_with_len from n) ≡ Some k) × (k < from + n) × (p k ≡ true) × ((j : ℕ) → from ≤ j → j < k → p j ≡ false))
find-range p from zero = inl (refl, λ k low high. absurd (omega arith))
find-range p from (suc n) =
    elim (cases_Bool (p from)) [
      | inl pass ↦ inr (from, ap (λ b. cond b (Some from) (find p (range_with_len (from + 1) n))) pass, omega arith, pass, λ j low high. absurd (omega (arith, low, high)))
      | inr fail ↦
          elim (find-range p (from + 1) n) [
            | inl none ↦ inl (
              ap (λ b. cond b (Some from) (find p (range_with_len (from + 1) n))) fail ∙ none.0,
              λ k low high. elim (cases_eq k from) [ inl e ↦ ap p e ∙ fail | inr ne ↦ none.1 k (omega arith) (omega arith) ],
            )
            | inr some ↦ inr (
              some.0,
              ap (λ b. cond b (Some from) (find p (range_with_len (from + 1) n))) fail ∙ some.1,
              omega (arith, some.2),
              some.3,
              λ j low high. elim (cases_eq j from) [ inl e ↦ ap p e ∙ fail | inr ne ↦ some.4 j (omega arith) high ],
            )
          ]
    ]

-- a process's vote stands in the first mask that the process is in
pub place_is_first : (masks : List ℕ) (k process : ℕ) → k < length masks → has (slice_index masks k) process ≡ true → ((j : ℕ) → j < k → has (slice_index masks j) process ≡ false) → place_by masks process ≡ Some k
unfolding place_by
place_is_first masks k process below there before =
    elim (find-range (λ j. has (slice_index masks j) process) 0 (length masks)) [
      | inl none ↦ absurd (both_ways _ (none.1 k (omega arith) (omega arith)) there)
      | inr some ↦
          some.1 ∙ ap Some (elim (cases_eq some.0 k) [
            | inl e ↦ e
            | inr ne ↦
                elim (cases_lt some.0 k) [
                  | inl less ↦ absurd (both_ways _ (before some.0 less) some.3)
                  | inr more ↦ absurd (both_ways _ (some.4 k (omega arith) (omega (arith, ne, more))) there)
                ]
          ])
    ]

-- who is in one mask voted for its value
place_is : (members : ℕ) (masks : List ℕ) (k process : ℕ) → AreMasks members masks → k < length masks → has (slice_index masks k) process ≡ true → place_by masks process ≡ Some k
place_is members masks k process are below there = place_is_first masks k process below there (λ j less. are.disjoint k j process (λ e. omega (arith, e, less)) there)

-- who is in none didn't vote
pub place_is_none : (masks : List ℕ) (process : ℕ) → ((k : ℕ) → k < length masks → has (slice_index masks k) process ≡ false) → place_by masks process ≡ None
unfolding place_by
place_is_none masks process out =
    elim (find-range (λ j. has (slice_index masks j) process) 0 (length masks)) [
      | inl none ↦ none.0
      | inr some ↦ absurd (both_ways _ (out some.0 (omega (arith, some.2))) some.3)
    ]

is_at-place : (members : ℕ) (masks : List ℕ) (k process : ℕ) → AreMasks members masks → k < length masks → is_at k (place_by masks process) ≡ has (slice_index masks k) process
unfolding place_by
is_at-place members masks k process are below =
    elim (find-range (λ j. has (slice_index masks j) process) 0 (length masks)) [
      | inl none ↦ ap (is_at k) none.0 ∙ sym (none.1 k (omega arith) (omega arith))
      | inr some ↦
          ap (is_at k) some.1 ∙ (elim (cases_eq some.0 k) [
            | inl e ↦ eq-eqb some.0 k e ∙ sym some.3 ∙ ap (λ j. has (slice_index masks j) process) e
            | inr ne ↦ ne_eqb some.0 k ne ∙ sym (are.disjoint some.0 k process ne some.3)
          ])
    ]

count_by-mapped : {X : Type 0} (f : ℕ → X) (p : X → Bool) (q : ℕ → Bool) (xs : List ℕ) → ((k : ℕ) → p (f k) ≡ q k) → count_by p (map f xs) ≡ count_by q xs
count_by-mapped f p q [] same = refl
count_by-mapped f p q (x ∷ xs) same =
    count_by-cons p (f x) (map f xs) ∙ ap₂ (λ b n. one b + n) (same x) (count_by-mapped f p q xs same) ∙ sym (count_by-cons q x xs)

pub counts_are_votes : (members : ℕ) (masks : List ℕ) (k : ℕ) → AreMasks members masks → k < length masks → count_by (is_at k) (votes_by members masks) ≡ count_ones (slice_index masks k)
unfolding votes_by size
counts_are_votes members masks k are below =
    count_by-mapped (place_by masks) (is_at k) (has (slice_index masks k)) (range_with_len 0 members) (λ p. is_at-place members masks k p are below)
    ∙ sym (counts_are_sizes members (slice_index masks k) (are.below k))

-- ---- one vote more

-- votes that differ at one process
votes_with_one : (members : ℕ) (masks more : List ℕ) (process k : ℕ) → process < members → place_by more process ≡ Some k → ((p : ℕ) → p ≢ process → place_by more p ≡ place_by masks p) → votes_by members more ≡ slice_set (votes_by members masks) process (Some k)
unfolding votes_by
votes_with_one members masks more process k below here others =
    let old = map (place_by masks) (range_with_len 0 members) in
    let long : length old ≡ members = length-map-range_with_len (place_by masks) 0 members in
    let set = slice_set old process (Some k) in
    let none : Option ℕ = None in
    sym (fill_by_all (place_by more) set members none (length-set old process (Some k) ∙ long)
    (λ p small. elim (cases_eq p process) [
      | inl e ↦
          (let P : ℕ → Type 0 = λ x. get_or set x none ≡ place_by more x in
          subst P (sym e) (get_or-set_same old process (Some k) none (omega arith) ∙ sym here))
      | inr ne ↦
          get_or-set_other old process p (Some k) none ne
          ∙ get_or-map-range_with_len (place_by masks) 0 members p p none small (omega arith)
          ∙ sym (others p ne)
    ]))

with-lt : (members mask process : ℕ) → mask < 2 ^ members → process < members → with_process mask process < 2 ^ members
with-lt members mask process below small = or_lt members mask (2 ^ process) below (pow_below process members small)

-- where the masks are the same for a process, so is its vote
place_by-same : (masks more : List ℕ) (process : ℕ) → length more ≡ length masks → ((k : ℕ) → has (slice_index more k) process ≡ has (slice_index masks k) process) → place_by more process ≡ place_by masks process
unfolding place_by
place_by-same masks more process long same =
    find-same (λ k. has (slice_index more k) process) (λ k. has (slice_index masks k) process) 0 (length more) same
    ∙ ap (λ n. find (λ k. has (slice_index masks k) process) (range_with_len 0 n)) long
  where
    find-same : (p q : ℕ → Bool) (from n : ℕ) → ((k : ℕ) → p k ≡ q k) → find p (range_with_len from n) ≡ find q (range_with_len from n)
    find-same p q from zero e = refl
    find-same p q from (suc n) e = ap₂ (λ b r. cond b (Some from) r) (e from) (find-same p q (from + 1) n e)

module _ (members : ℕ) (masks : List ℕ) (k process : ℕ) (are : AreMasks members masks) (below : k < length masks) (small : process < members) (out : (j : ℕ) → has (slice_index masks j) process ≡ false) where
  more : List ℕ
  more = slice_set masks k (with_process (slice_index masks k) process)

  more_here : slice_index more k ≡ with_process (slice_index masks k) process
  unfolding more
  more_here = get_or-set_same masks k (with_process (slice_index masks k) process) 0 below

  more_there : (j : ℕ) → j ≢ k → slice_index more j ≡ slice_index masks j
  unfolding more
  more_there j ne = get_or-set_other masks k j (with_process (slice_index masks k) process) 0 ne

  -- of the others nobody's place changes
  has-more_other : (j p : ℕ) → p ≢ process → has (slice_index more j) p ≡ has (slice_index masks j) p
  has-more_other j p ne =
      elim (cases_eq j k) [
        | inl e ↦
            (let P : ℕ → Type 0 = λ x. has (slice_index more x) p ≡ has (slice_index masks x) p in
            subst P (sym e) (ap (λ m. has m p) more_here ∙ has-with_other (slice_index masks k) process p ne))
        | inr un ↦ ap (λ m. has m p) (more_there j un)
      ]

  -- and the process is in that mask alone
  has-more_process : (j : ℕ) → has (slice_index more j) process ≡ true → j ≡ k
  has-more_process j there =
      elim (cases_eq j k) [
        | inl e ↦ e
        | inr un ↦ absurd (both_ways _ (ap (λ m. has m process) (more_there j un) ∙ out j) there)
      ]

  masks_with_one_more : AreMasks members more
  masks_with_one_more = record {
    below = λ j. elim (cases_eq j k) [
      | inl e ↦
          (let P : ℕ → Type 0 = λ x. slice_index more x < 2 ^ members in
          let Q : ℕ → Type 0 = λ m. m < 2 ^ members in
          subst P (sym e) (subst Q (sym more_here) (with-lt members (slice_index masks k) process (are.below k) small)))
      | inr un ↦ (let Q : ℕ → Type 0 = λ m. m < 2 ^ members in subst Q (sym (more_there j un)) (are.below j))
    ];
    disjoint = λ i j p ne there. elim (cases_eq p process) [
      | inl e ↦
          (let B : ℕ → Type 0 = λ x. has (slice_index more i) x ≡ true in
          let N : ℕ → Type 0 = λ x. has (slice_index more j) x ≡ false in
          let first = has-more_process i (subst B e there) in
          subst N (sym e) (elim (cases_Bool (has (slice_index more j) process)) [
            | inl too ↦ absurd (ne (first ∙ sym (has-more_process j too)))
            | inr none ↦ none
          ]))
      | inr un ↦ has-more_other j p un ∙ are.disjoint i j p ne (sym (has-more_other i p un) ∙ there)
    ];
  }

  votes_with_one_more : votes_by members more ≡ slice_set (votes_by members masks) process (Some k)
  unfolding more
  votes_with_one_more =
      let long = length-set masks k (with_process (slice_index masks k) process) in
      votes_with_one members masks more process k small
      (place_is members more k process masks_with_one_more (omega arith) (ap (λ m. has m process) more_here ∙ has-with_same (slice_index masks k) process))
      (λ p ne. place_by-same masks more p long (λ j. has-more_other j p ne))

one_vote_more : (members : ℕ) (masks : List ℕ) (k process : ℕ) → AreMasks members masks → k < length masks → process < members → ((j : ℕ) → has (slice_index masks j) process ≡ false) → (AreMasks members (slice_set masks k (with_process (slice_index masks k) process))) × (votes_by members (slice_set masks k (with_process (slice_index masks k) process)) ≡ slice_set (votes_by members masks) process (Some k))
unfolding more
one_vote_more members masks k process are below small out = (masks_with_one_more members masks k process are below small out, votes_with_one_more members masks k process are below small out)

-- ---- what is read of masks

pub votes_by-at : (members : ℕ) (masks : List ℕ) (process : ℕ) → process < members → get_or (votes_by members masks) process None ≡ place_by masks process
unfolding votes_by
votes_by-at members masks process small =
    let none : Option ℕ = None in
    get_or-map-range_with_len (place_by masks) 0 members process process none small (omega arith)

pub length-votes_by : (members : ℕ) (masks : List ℕ) → length (votes_by members masks) ≡ members
unfolding votes_by
length-votes_by members masks = length-map-range_with_len (place_by masks) 0 members

-- who didn't vote is in no mask
in_no_mask : (members : ℕ) (masks : List ℕ) (process : ℕ) → AreMasks members masks → place_by masks process ≡ None → (k : ℕ) → has (slice_index masks k) process ≡ false
in_no_mask members masks process are none k =
    elim (cases_lt k (length masks)) [
      | inl below ↦
          elim (cases_Bool (has (slice_index masks k) process)) [
            | inl there ↦ absurd (some_is_none k (sym (place_is members masks k process are below there) ∙ none))
            | inr out ↦ out
          ]
      | inr past ↦ ap (λ m. has m process) (get_or_past masks k 0 past) ∙ has-none process
    ]
  where
    some_is_none : (k : ℕ) → Some k ≡ None → ⊥
    some_is_none k e = cc

-- ---- a mask of nobody more

has-nobody : (masks : List ℕ) (k process : ℕ) → has (slice_index (masks ++ 0 ∷ []) k) process ≡ has (slice_index masks k) process
has-nobody masks k process =
    elim (cases_lt k (length masks)) [
      | inl below ↦ ap (λ m. has m process) (get_or_append_left masks (0 ∷ []) 0 k below)
      | inr past ↦
          elim (cases_eq k (length masks)) [
            | inl e ↦
                ap (λ m. has m process) (ap (slice_index (masks ++ 0 ∷ [])) e ∙ get_or_push masks 0 0 (length masks) refl)
                ∙ ap (λ m. has m process) (sym (get_or_past masks k 0 past))
            | inr ne ↦
                (let long = length-append masks (0 ∷ []) in
                ap (λ m. has m process) (get_or_past (masks ++ 0 ∷ []) k 0 (omega arith) ∙ sym (get_or_past masks k 0 past)))
          ]
    ]

nobody_below : (members : ℕ) (masks : List ℕ) → AreMasks members masks → (k : ℕ) → slice_index (masks ++ 0 ∷ []) k < 2 ^ members
nobody_below members masks are k =
    let Q : ℕ → Type 0 = λ m. m < 2 ^ members in
    elim (cases_lt k (length masks)) [
      | inl below ↦ subst Q (sym (get_or_append_left masks (0 ∷ []) 0 k below)) (are.below k)
      | inr past ↦
          elim (cases_eq k (length masks)) [
            | inl e ↦ subst Q (sym (ap (slice_index (masks ++ 0 ∷ [])) e ∙ get_or_push masks 0 0 (length masks) refl)) (pow_pos members)
            | inr ne ↦
                (let long = length-append masks (0 ∷ []) in
                subst Q (sym (get_or_past (masks ++ 0 ∷ []) k 0 (omega arith))) (pow_pos members))
          ]
    ]

pub masks_with_nobody : (members : ℕ) (masks : List ℕ) → AreMasks members masks → AreMasks members (masks ++ 0 ∷ [])
masks_with_nobody members masks are = record {
  below = nobody_below members masks are;
  disjoint = λ i j p ne there. has-nobody masks j p ∙ are.disjoint i j p ne (sym (has-nobody masks i p) ∙ there);
}

place_by-nobody : (members : ℕ) (masks : List ℕ) (process : ℕ) → AreMasks members masks → place_by (masks ++ 0 ∷ []) process ≡ place_by masks process
unfolding place_by
place_by-nobody members masks process are =
    let long = length-append masks (0 ∷ []) in
    elim (find-range (λ j. has (slice_index masks j) process) 0 (length masks)) [
      | inl none ↦
          place_is_none (masks ++ 0 ∷ []) process (λ k _. has-nobody masks k process ∙ in_no_mask members masks process are none.0 k)
          ∙ sym none.0
      | inr some ↦
          place_is members (masks ++ 0 ∷ []) some.0 process (masks_with_nobody members masks are) (omega (arith, long, some.2)) (has-nobody masks some.0 process ∙ some.3)
          ∙ sym some.1
    ]

pub votes_by-nobody : (members : ℕ) (masks : List ℕ) → AreMasks members masks → votes_by members (masks ++ 0 ∷ []) ≡ votes_by members masks
unfolding votes_by
votes_by-nobody members masks are = map-same (place_by (masks ++ 0 ∷ [])) (place_by masks) (λ p. place_by-nobody members masks p are) (range_with_len 0 members)

-- ---- before any vote

place_by-none : (process : ℕ) → place_by [] process ≡ None
unfolding place_by
place_by-none process = refl

pub votes_by-none : (members : ℕ) → votes_by members [] ≡ replicate members None
unfolding votes_by
votes_by-none members =
    let none : Option ℕ = None in
    sym (fill_by_all (place_by []) (replicate members none) members none (length-replicate members none)
    (λ k below. get_or-replicate members k none none below ∙ sym (place_by-none k)))

pub AreMasks-none : (members : ℕ) → AreMasks members []
AreMasks-none members = record { below = λ k. pow_pos members; disjoint = λ i j p ne there. has-none p }

-- ---- a vote of a process that hasn't voted

module _ (members : ℕ) (masks : List ℕ) (k process : ℕ) (are : AreMasks members masks) (below : k < length masks) (small : process < members) (none : place_by masks process ≡ None) where
  pub AreMasks-one : AreMasks members (slice_set masks k (with_process (slice_index masks k) process))
  AreMasks-one = (one_vote_more members masks k process are below small (in_no_mask members masks process are none)).0

  pub votes_by-one : votes_by members (slice_set masks k (with_process (slice_index masks k) process)) ≡ slice_set (votes_by members masks) process (Some k)
  votes_by-one = (one_vote_more members masks k process are below small (in_no_mask members masks process are none)).1
