-- The values of an owner, read and written.
use Rattle.std.proofs.Common.{◌≡◌, ◌≢◌, ℕ, zero, suc, ◌+◌, ◌<◌, ◌≤◌, List, [], ◌∷◌, ◌++◌, length, map, get_or, set, refl, ap, ◌∙◌, sym, subst, arith, inl, inr, Vec, vec_len, All}
use Rattle.std.specs.Global.{Global}
use Rattle.std.specs.Prelude.{slice_get, Some, Bool, true, false, cond, Result, Ok, Err, OnErr}
use Rattle.std.specs.Option.{option_map}
use Rattle.std.proofs.lemmas.Option.{slice_get-map, slice_get_read}
use Rattle.std.proofs.lemmas.Bool.{cases_eq}
use Rattle.std.proofs.lemmas.List.{length-map, map-append}
use Rattle.std.proofs.lemmas.List.Elements.{All-head, All-tail}
use Rattle.pay_channel.specs.Source.{GrowsOnly}
use Rattle.pay_library_tests.specs.Lists.{owner_values}

abbrev pub Bytes : Type 0
Bytes = Vec ℕ Global

abbrev pub Values : Type 0
Values = Vec (Vec ℕ Global) Global

-- a list's values
abbrev pub items_of : Values → List (List ℕ)
items_of list = map (λ v. v.items) list.items

pub owner_values-read : (lists : List Values) (owner : ℕ) (list : Values) → owner < length lists → list ≡ get_or lists owner list → owner_values lists owner ≡ items_of list
owner_values-read [] owner list h e = absurd (omega arith)
owner_values-read (first ∷ lists) zero list h e = ap items_of (sym e)
owner_values-read (first ∷ lists) (suc owner) list h e = owner_values-read lists owner list (omega arith) e

pub owner_values-past : (lists : List Values) (owner : ℕ) → length lists ≤ owner → owner_values lists owner ≡ []
owner_values-past [] owner h = refl
owner_values-past (first ∷ lists) zero h = absurd (omega arith)
owner_values-past (first ∷ lists) (suc owner) h = owner_values-past lists owner (omega arith)

pub owner_values-within : (lists : List Values) (owner k : ℕ) → k < length (owner_values lists owner) → owner < length lists
owner_values-within [] owner k h = absurd (omega arith)
owner_values-within (first ∷ lists) zero k h = omega arith
owner_values-within (first ∷ lists) (suc owner) k h = let rest = owner_values-within lists owner k h in omega arith

pub owner_values-set_same : (lists : List Values) (owner : ℕ) (list : Values) → owner < length lists → owner_values (set lists owner list) owner ≡ items_of list
owner_values-set_same [] owner list h = absurd (omega arith)
owner_values-set_same (first ∷ lists) zero list h = refl
owner_values-set_same (first ∷ lists) (suc owner) list h = owner_values-set_same lists owner list (omega arith)

pub owner_values-set_other : (lists : List Values) (owner a : ℕ) (list : Values) → a ≢ owner → owner_values (set lists owner list) a ≡ owner_values lists a
owner_values-set_other [] owner a list ne = refl
owner_values-set_other (first ∷ lists) zero zero list ne = absurd (ne refl)
owner_values-set_other (first ∷ lists) zero (suc a) list ne = refl
owner_values-set_other (first ∷ lists) (suc owner) zero list ne = refl
owner_values-set_other (first ∷ lists) (suc owner) (suc a) list ne = owner_values-set_other lists owner a list (λ e. ne (ap suc e))

-- new lists are empty
pub owner_values-empty : (lists : List Values) → All (λ list. vec_len list ≡ 0) lists → (owner : ℕ) → length (owner_values lists owner) ≡ 0
owner_values-empty [] empty owner = refl
owner_values-empty (first ∷ lists) empty zero =
    let none : vec_len first ≡ 0 = All-head (λ list. vec_len list ≡ 0) first lists empty in
    length-map first.items _ ∙ sym first.ok.0 ∙ none
owner_values-empty (first ∷ lists) empty (suc owner) =
    owner_values-empty lists (All-tail (λ list. vec_len list ≡ 0) first lists empty) owner

-- one value more at the end of one list
pub owner_values-append : (lists : List Values) (owner : ℕ) (old new : Values) (value : Bytes) → owner < length lists → old ≡ get_or lists owner old → new.items ≡ old.items ++ value ∷ [] → GrowsOnly (owner_values lists) (owner_values (set lists owner new)) owner
owner_values-append lists owner old new value h is pushed = record {
  grown = (
    value.items ∷ [],
    owner_values-set_same lists owner new h
        ∙ ap (map (λ (v : Bytes). v.items)) pushed
        ∙ map-append (λ (v : Bytes). v.items) old.items (value ∷ [])
        ∙ ap (λ values. values ++ value.items ∷ []) (sym (owner_values-read lists owner old h is)),
  );
  others = λ a ne. owner_values-set_other lists owner a new ne;
}

-- a list with the items that it had
pub owner_values-kept : (lists : List Values) (owner : ℕ) (old new : Values) → owner < length lists → old ≡ get_or lists owner old → new.items ≡ old.items → (a : ℕ) → owner_values (set lists owner new) a ≡ owner_values lists a
owner_values-kept lists owner old new h is same a =
    elim (cases_eq a owner) [
      | inl e ↦ (let P : ℕ → Type 0 = λ x. owner_values (set lists owner new) x ≡ owner_values lists x in
          subst P (sym e) (owner_values-set_same lists owner new h ∙ ap (map (λ (v : Bytes). v.items)) same ∙ sym (owner_values-read lists owner old h is)))
      | inr ne ↦ owner_values-set_other lists owner a new ne
    ]

-- what reading a list shows of its owner's values
pub length_at-read : (lists items : List Values) (owner : ℕ) (list : Values) (n : ℕ) → lists ≡ items → owner < length lists → list ≡ get_or lists owner list → n ≡ vec_len list → n ≡ length (owner_values items owner)
length_at-read lists items owner list n same h is len =
    let values = ap length (owner_values-read lists owner list h is) in
    let here = ap (λ xs. length (owner_values xs owner)) same in
    let long = length-map list.items (λ (v : Bytes). v.items) in
    let vec = list.ok.0 in
    omega arith

pub length_at-past : (lists items : List Values) (owner : ℕ) → lists ≡ items → length lists ≤ owner → 0 ≡ length (owner_values items owner)
length_at-past lists items owner same h =
    ap length (sym (owner_values-past lists owner h)) ∙ ap (λ xs. length (owner_values xs owner)) same

pub place_within : (items : List Values) (owner k : ℕ) (list : Values) → k < length (owner_values items owner) → list ≡ get_or items owner list → k < vec_len list
place_within items owner k list h is =
    let there = owner_values-within items owner k h in
    let len = length_at-read items items owner list (vec_len list) refl there is refl in
    omega arith

pub value_at-read : (items : List Values) (owner k : ℕ) (list : Values) (value : Bytes) (bytes : List ℕ) → k < length (owner_values items owner) → list ≡ get_or items owner list → value ≡ get_or list.items k value → bytes ≡ value.items → slice_get (owner_values items owner) k ≡ Some bytes
value_at-read items owner k list value bytes h is value_is bytes_is =
    let there = owner_values-within items owner k h in
    let within = place_within items owner k list h is in
    ap (λ values. slice_get values k) (owner_values-read items owner list there is)
    ∙ slice_get-map (λ (v : Bytes). v.items) list.items k
    ∙ ap (option_map (λ (v : Bytes). v.items)) (slice_get_read list.items (vec_len list) k value list.ok.0 within value_is)
    ∙ ap Some (sym bytes_is)

-- a list of less than the bound is within it after one push
pub pushed_len : (pushed : Bool) (before after most : ℕ) → after ≡ cond pushed (before + 1) before → before < most → after ≤ most
pushed_len true before after most e h = omega arith
pushed_len false before after most e h = omega arith

pub OnErr-from : {T E : Type 0} {P : Type 0} (r : Result T E) → P → OnErr r P
OnErr-from (Ok x) p = tt
OnErr-from (Err e) p = p

pub owner_values-short : (lists : List Values) (most : ℕ) → All (λ list. vec_len list ≤ most) lists → (owner : ℕ) → length (owner_values lists owner) ≤ most
owner_values-short [] most short owner = omega arith
owner_values-short (first ∷ lists) most short zero =
    let here : vec_len first ≤ most = All-head (λ list. vec_len list ≤ most) first lists short in
    let vec = first.ok.0 in
    omega (arith, length-map first.items (λ (v : Bytes). v.items))
owner_values-short (first ∷ lists) most short (suc owner) =
    owner_values-short lists most (All-tail (λ list. vec_len list ≤ most) first lists short) owner
