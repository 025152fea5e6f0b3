-- Values with their masks: a value more, which nobody voted for, and a vote more.
use Rattle.std.proofs.Common.{◌≡◌, ℕ, ◌+◌, ◌<◌, ◌≤◌, List, [], ◌∷◌, ◌++◌, length, get_or, slice_index, true, false, ap, ◌∙◌, sym, subst, arith, inl, inr}
use Rattle.std.specs.Prelude.{Option, Some, None, slice_get, slice_set, count_ones}
use Rattle.std.specs.List.{count_by}
use Rattle.std.specs.Option.{option_map}
use Rattle.std.proofs.lemmas.Option.{slice_get-map, slice_get_within, slice_get-get_or}
use Rattle.std.proofs.lemmas.List.{map-set, map-append, length-map, length-append, length_push, append-nil, get_or-map, get_or_append_left, get_or_push}
use Rattle.std.proofs.Math.Seq.{map-set_same}
use Rattle.std.proofs.lemmas.Bool.{cases_eq, cases_lt}
use Rattle.pay_echo.specs.Plain.{AreDistinct, is_at, IsPlaceOf}
use Rattle.pay_echo.specs.Masks.{has, with_process, place_by, votes_by, AreMasks, mask_of, values_of, masks_of, votes_of, IsGrown}
use Rattle.pay_echo.specs.declared.candidate.Candidate.{Candidate}
use Rattle.pay_echo.specs.declared.instance.VoteKind.{VoteKind}
use Rattle.pay_echo.specs.declared.instance.VoteKind.TheVariants as kind
use Rattle.pay_echo.proofs.MaskVotes.{votes_by-at, votes_by-nobody, votes_by-one, counts_are_votes, place_is_first, place_is_none, masks_with_nobody, AreMasks-one}

-- ---- what is read of them

pub value-there : (candidates : List Candidate) (place : ℕ) (c : Candidate) → slice_get candidates place ≡ Some c → slice_get (values_of candidates) place ≡ Some c.value
value-there candidates place c there = slice_get-map (λ (c : Candidate). c.value) candidates place ∙ ap (option_map (λ (c : Candidate). c.value)) there

pub length-values : (candidates : List Candidate) → length (values_of candidates) ≡ length candidates
length-values candidates = length-map candidates (λ (c : Candidate). c.value)

mask-at : (candidates : List Candidate) (place : ℕ) (c : Candidate) (of : VoteKind) → place < length candidates → c ≡ get_or candidates place c → slice_index (masks_of of candidates) place ≡ mask_of of c
mask-at candidates place c of below here = get_or-map (mask_of of) candidates place c 0 below ∙ ap (mask_of of) (sym here)

-- how many voted for the value at a place
pub count-at_place : (members : ℕ) (candidates : List Candidate) (place : ℕ) (c : Candidate) (of : VoteKind) → AreMasks members (masks_of of candidates) → place < length candidates → c ≡ get_or candidates place c → count_ones (mask_of of c) ≡ count_by (is_at place) (votes_of members of candidates)
count-at_place members candidates place c of are below here =
    ap count_ones (sym (mask-at candidates place c of below here))
    ∙ sym (counts_are_votes members (masks_of of candidates) place are (omega (arith, below, length-map candidates (mask_of of))))

-- ---- whose vote is where

module _ (candidates : List Candidate) (process : ℕ) (of : VoteKind) where
  -- the process is in none of the masks before a place
  abbrev pub IsOut : ℕ → Type 0
  IsOut place = (k : ℕ) → k < place → has (slice_index (masks_of of candidates) k) process ≡ false

  pub place-found : (place : ℕ) (c : Candidate) → place < length candidates → c ≡ get_or candidates place c → has (mask_of of c) process ≡ true → IsOut place → place_by (masks_of of candidates) process ≡ Some place
  place-found place c below here there before =
      place_is_first (masks_of of candidates) place process (omega (arith, below, length-map candidates (mask_of of)))
      (ap (λ mask. has mask process) (mask-at candidates place c of below here) ∙ there) before

  pub place-none : IsOut (length candidates) → place_by (masks_of of candidates) process ≡ None
  place-none out = place_is_none (masks_of of candidates) process (λ k below. out k (omega (arith, below, length-map candidates (mask_of of))))

  pub not-there : (place : ℕ) (c : Candidate) → place < length candidates → c ≡ get_or candidates place c → has (mask_of of c) process ≡ false → IsOut place → IsOut (place + 1)
  not-there place c below here out before k less =
      elim (cases_eq k place) [
        | inl e ↦
            (let P : ℕ → Type 0 = λ j. has (slice_index (masks_of of candidates) j) process ≡ false in
            subst P (sym e) (ap (λ mask. has mask process) (mask-at candidates place c of below here) ∙ out))
        | inr ne ↦ before k (omega (arith, less, ne))
      ]

-- ---- a value more

-- a value that stands nowhere, put at the end
pub distinct-more : (values : List (List ℕ)) (v : List ℕ) → AreDistinct values → IsPlaceOf v values None → AreDistinct (values ++ v ∷ [])
distinct-more values v distinct absent j k u one other =
    elim (cases_lt j (length values)) [
      | inl less ↦
          elim (cases_lt k (length values)) [
            | inl too ↦ distinct j k u (before j less ∙ one) (before k too ∙ other)
            | inr past ↦ absurd (absent j (before j less ∙ one ∙ sym other ∙ last k past (slice_get_within (values ++ v ∷ []) k u other)))
          ]
      | inr past ↦
          elim (cases_lt k (length values)) [
            | inl less ↦ absurd (absent k (before k less ∙ other ∙ sym one ∙ last j past (slice_get_within (values ++ v ∷ []) j u one)))
            | inr too ↦
                (let here = slice_get_within (values ++ v ∷ []) j u one in
                let there = slice_get_within (values ++ v ∷ []) k u other in
                let long = length_push values v in
                omega (arith, past, too, here, there, long))
          ]
    ]
  where
    before : (i : ℕ) → i < length values → slice_get values i ≡ slice_get (values ++ v ∷ []) i
    before i less =
        let none : List ℕ = [] in
        let long = length_push values v in
        slice_get-get_or values i none less
        ∙ ap (λ (w : List ℕ). Some w) (sym (get_or_append_left values (v ∷ []) none i less))
        ∙ sym (slice_get-get_or (values ++ v ∷ []) i none (omega (arith, long, less)))

    last : (i : ℕ) → length values ≤ i → i < length (values ++ v ∷ []) → slice_get (values ++ v ∷ []) i ≡ Some v
    last i past less =
        let none : List ℕ = [] in
        let long = length_push values v in
        let at_end : length values ≡ i = omega (arith, past, less, long) in
        slice_get-get_or (values ++ v ∷ []) i none less ∙ ap (λ (w : List ℕ). Some w) (get_or_push values v none i at_end)

module _ (candidates : List Candidate) (value : List ℕ) where
  abbrev fresh : Candidate
  fresh = record { value = value; echoes = 0; readys = 0 }

  pub values-more : values_of (candidates ++ fresh ∷ []) ≡ values_of candidates ++ value ∷ []
  values-more = map-append (λ (c : Candidate). c.value) candidates (fresh ∷ [])

  masks-more : (of : VoteKind) → masks_of of (candidates ++ fresh ∷ []) ≡ masks_of of candidates ++ 0 ∷ []
  masks-more kind.Echo = map-append (mask_of kind.Echo) candidates (fresh ∷ [])
  masks-more kind.Ready = map-append (mask_of kind.Ready) candidates (fresh ∷ [])

-- of candidates that may have grown
pub values-grown : (before after : List Candidate) → IsGrown before after → (more : List (List ℕ)) × (values_of after ≡ values_of before ++ more)
values-grown before after (inl same) = ([], ap values_of same ∙ sym (append-nil (values_of before)))
values-grown before after (inr (v, one)) = (v ∷ [], ap values_of one ∙ values-more before v)

pub length-grown : (before after : List Candidate) → IsGrown before after → length after ≤ length before + 1
length-grown before after (inl same) = let e = ap length same in omega (arith, e)
length-grown before after (inr (v, one)) = let e = ap length one in let long = length-append before (fresh before v ∷ []) in omega (arith, e, long)

pub masks-grown : (members : ℕ) (before after : List Candidate) (of : VoteKind) → IsGrown before after → AreMasks members (masks_of of before) → AreMasks members (masks_of of after)
masks-grown members before after of (inl same) are = subst (λ (candidates : List Candidate). AreMasks members (masks_of of candidates)) (sym same) are
masks-grown members before after of (inr (v, one)) are =
    subst (AreMasks members) (sym (ap (masks_of of) one ∙ masks-more before v of)) (masks_with_nobody members (masks_of of before) are)

pub votes-grown : (members : ℕ) (before after : List Candidate) (of : VoteKind) → IsGrown before after → AreMasks members (masks_of of before) → votes_of members of after ≡ votes_of members of before
votes-grown members before after of (inl same) are = ap (votes_of members of) same
votes-grown members before after of (inr (v, one)) are =
    ap (votes_by members) (ap (masks_of of) one ∙ masks-more before v of) ∙ votes_by-nobody members (masks_of of before) are

-- ---- a vote more

-- what a change leaves of the votes of one kind
abbrev pub Shows : ℕ → VoteKind → List Candidate → List (Option ℕ) → Type 0
Shows members of candidates votes = AreMasks members (masks_of of candidates) × (votes_of members of candidates ≡ votes)

module _ (candidates : List Candidate) (place : ℕ) (c c_now : Candidate) (below : place < length candidates) (here : c ≡ get_or candidates place c) where
  abbrev now : List Candidate
  now = slice_set candidates place c_now

  pub same-values : c_now.value ≡ c.value → values_of now ≡ values_of candidates
  same-values same = map-set_same (λ (x : Candidate). x.value) candidates place c_now c (same ∙ ap (λ (x : Candidate). x.value) here)

  module _ (members : ℕ) (of : VoteKind) (are : AreMasks members (masks_of of candidates)) where
    pub unchanged-Shows : mask_of of c_now ≡ mask_of of c → Shows members of now (votes_of members of candidates)
    unchanged-Shows same =
        let masks : masks_of of now ≡ masks_of of candidates = map-set_same (mask_of of) candidates place c_now c (same ∙ ap (mask_of of) here) in
        (subst (AreMasks members) (sym masks) are, ap (votes_by members) masks)

    pub changed-Shows : (process : ℕ) → process < members → get_or (votes_of members of candidates) process None ≡ None → mask_of of c_now ≡ with_process (mask_of of c) process → Shows members of now (slice_set (votes_of members of candidates) process (Some place))
    changed-Shows process small first changed =
        let masks : masks_of of now ≡ slice_set (masks_of of candidates) place (with_process (slice_index (masks_of of candidates) place) process) =
        map-set (mask_of of) candidates place c_now ∙ ap (slice_set (masks_of of candidates) place) (changed ∙ ap (λ m. with_process m process) (sym (mask-at candidates place c of below here))) in
        let inside : place < length (masks_of of candidates) = omega (arith, below, length-map candidates (mask_of of)) in
        let none : place_by (masks_of of candidates) process ≡ None = sym (votes_by-at members (masks_of of candidates) process small) ∙ first in (
          subst (AreMasks members) (sym masks) (AreMasks-one members (masks_of of candidates) place process are inside small none),
          ap (votes_by members) masks ∙ votes_by-one members (masks_of of candidates) place process are inside small none,
        )
