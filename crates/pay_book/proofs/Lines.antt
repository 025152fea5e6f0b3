-- A statement, line by line.
use Rattle.std.proofs.Common.{◌≡◌, ℕ, zero, suc, ◌+◌, List, [], ◌∷◌, ◌++◌, length, map, take, ap, ap₂, ◌∙◌, sym, arith, ◌≤◌, inl, inr}
use Rattle.std.specs.Prelude.{slice_get, Option, Some, None}
use Rattle.std.specs.Option.{option_map}
use Rattle.std.specs.List.{flat_map, filter_map, cons_option, enumerate_from, range_with_len}
use Rattle.std.proofs.lemmas.List.{append_assoc, map-append, take_more, length-map, append-nil, map-id}
use Rattle.std.proofs.lemmas.List.Concat.{flat_map-append}
use Rattle.std.proofs.lemmas.List.Elements.{filter_map-append}
use Rattle.std.proofs.lemmas.List.FromFn.{map-range_with_len_more, length-enumerate_from}
use Rattle.std.proofs.lemmas.Option.{slice_get-map, slice_get_within, slice_get_past, slice_get_cases, get_or_from_slice_get, same_Some}
use Rattle.pay_book.specs.declared.payment.Entry.{Entry}
use Rattle.pay_book.specs.declared.payment.Entry.TheVariants.{Void}
use Rattle.pay_book.specs.Payment.{count_in, entries_in}
use Rattle.pay_book.specs.Places.{Place, place_in}
use Rattle.pay_book.specs.Statement.{numbered_entries_of}
use Rattle.pay_book.proofs.Places.{entry_from, entry_from-some, entry_from-none, slice_get-flat_map, place_in-numbered}
use Rattle.pay_book.proofs.Entries.{length-entries_in}

-- a value of a numbered list
slice_get-enumerate_from : {X : Type 0} (from : ℕ) (xs : List X) (k : ℕ) (x : X) → slice_get xs k ≡ Some x → slice_get (enumerate_from from xs) k ≡ Some (from + k, x)
slice_get-enumerate_from from [] k x there = absurd cc
slice_get-enumerate_from from (y ∷ ys) zero x there =
    let same : from ≡ from + 0 = omega arith in
    ap Some (ap₂ (λ (n : ℕ) v. (n, v)) same (same_Some y x there))
slice_get-enumerate_from from (y ∷ ys) (suc k) x there =
    let same : from + 1 + k ≡ from + suc k = omega arith in
    slice_get-enumerate_from (from + 1) ys k x there ∙ ap (λ n. Some (n, x)) same

-- the entry at a place
pub numbered_entry_is : (accounts : ℕ) (lists : ℕ → List (List ℕ)) (owner number : ℕ) (place : Place) (value : List ℕ) (entry : Entry) → place ≡ place_in count_in (lists owner) number → slice_get (lists owner) place.0 ≡ Some value → slice_get (entries_in accounts owner value) place.1 ≡ Some entry → slice_get (numbered_entries_of accounts lists owner) number ≡ Some (place.0, entry)
unfolding numbered_entries_of
numbered_entry_is accounts lists owner number place value entry at there next =
    let values = lists owner in
    let numbered = enumerate_from 0 values in
    let number_all : ℕ × List ℕ → List (ℕ × Entry) = λ v. map (λ e. (v.0, e)) (entries_in accounts owner v.1) in
    let count : ℕ × List ℕ → ℕ = λ v. count_in v.1 in
    let counts : (v : ℕ × List ℕ) → length (number_all v) ≡ count v =
    λ v. length-map (entries_in accounts owner v.1) (λ e. (v.0, e)) ∙ length-entries_in accounts owner v.1 in
    let same : place_in count numbered number ≡ place = place_in-numbered count_in 0 values number ∙ sym at in
    let zero_more : 0 + place.0 ≡ place.0 = omega arith in
    let stands : slice_get numbered place.0 ≡ Some (place.0, value) =
    slice_get-enumerate_from 0 values place.0 value there ∙ ap (λ n. Some (n, value)) zero_more in
    slice_get-flat_map count number_all counts numbered number
    ∙ ap (λ (p : Place). entry_from number_all (slice_get numbered p.0) p.1) same
    ∙ entry_from-some number_all (slice_get numbered place.0) (place.0, value) place.1 stands
    ∙ slice_get-map (λ e. (place.0, e)) (entries_in accounts owner value) place.1
    ∙ ap (option_map (λ e. (place.0, e))) next

-- behind the last value there is none
pub numbered_entries_end : (accounts : ℕ) (lists : ℕ → List (List ℕ)) (owner number : ℕ) (place : Place) → place ≡ place_in count_in (lists owner) number → length (lists owner) ≤ place.0 → length (numbered_entries_of accounts lists owner) ≤ number
unfolding numbered_entries_of
numbered_entries_end accounts lists owner number place at past =
    let values = lists owner in
    let numbered = enumerate_from 0 values in
    let number_all : ℕ × List ℕ → List (ℕ × Entry) = λ v. map (λ e. (v.0, e)) (entries_in accounts owner v.1) in
    let count : ℕ × List ℕ → ℕ = λ v. count_in v.1 in
    let counts : (v : ℕ × List ℕ) → length (number_all v) ≡ count v =
    λ v. length-map (entries_in accounts owner v.1) (λ e. (v.0, e)) ∙ length-entries_in accounts owner v.1 in
    let same : place_in count numbered number ≡ place = place_in-numbered count_in 0 values number ∙ sym at in
    let long = length-enumerate_from 0 values in
    let all = flat_map number_all numbered in
    let none : slice_get all number ≡ None =
    slice_get-flat_map count number_all counts numbered number
    ∙ ap (λ (p : Place). entry_from number_all (slice_get numbered p.0) p.1) same
    ∙ entry_from-none number_all (slice_get numbered place.0) place.1 (slice_get_past numbered place.0 (omega arith)) in
    elim (slice_get_cases all number).1 [
      | inl there ↦ (let some = there.2 in absurd (cc (none, some)))
      | inr end ↦ end.0
    ]

-- one entry more
pub take-numbered_more : (accounts : ℕ) (lists : ℕ → List (List ℕ)) (owner number : ℕ) (place : Place) (value : List ℕ) (entry : Entry) → place ≡ place_in count_in (lists owner) number → slice_get (lists owner) place.0 ≡ Some value → slice_get (entries_in accounts owner value) place.1 ≡ Some entry → take (number + 1) (numbered_entries_of accounts lists owner) ≡ take number (numbered_entries_of accounts lists owner) ++ (place.0, entry) ∷ []
take-numbered_more accounts lists owner number place value entry at there next =
    let all = numbered_entries_of accounts lists owner in
    let is = numbered_entry_is accounts lists owner number place value entry at there next in
    let default : ℕ × Entry = (0, Void) in
    take_more all number default (slice_get_within all number (place.0, entry) is)
    ∙ ap (λ e. take number all ++ e ∷ []) (get_or_from_slice_get all number (place.0, entry) default is)

-- the lines so far, with those of one entry more
module _ {X : Type 0} (before : List X) (some more : List (ℕ × Entry)) (place : ℕ) (entry : Entry) (is : more ≡ some ++ (place, entry) ∷ []) where
  pub map_more_entry : (f : ℕ × Entry → X) (lines after : List X) (line : X) → lines ≡ before ++ map f some → after ≡ lines ++ line ∷ [] → line ≡ f (place, entry) → after ≡ before ++ map f more
  map_more_entry f lines after line so_far pushed e =
      pushed
      ∙ ap (λ xs. xs ++ line ∷ []) so_far
      ∙ ap (λ x. (before ++ map f some) ++ x ∷ []) e
      ∙ append_assoc before (map f some) (f (place, entry) ∷ [])
      ∙ ap (λ xs. before ++ xs) (sym (map-append f some ((place, entry) ∷ [])))
      ∙ ap (λ xs. before ++ map f xs) (sym is)

  pub filter_map_more_entry : (f : ℕ × Entry → Option X) (lines after : List X) (line : Option X) → lines ≡ before ++ filter_map f some → after ≡ lines ++ cons_option line [] → line ≡ f (place, entry) → after ≡ before ++ filter_map f more
  filter_map_more_entry f lines after line so_far pushed e =
      pushed
      ∙ ap (λ xs. xs ++ cons_option line []) so_far
      ∙ ap (λ x. (before ++ filter_map f some) ++ cons_option x []) e
      ∙ append_assoc before (filter_map f some) (cons_option (f (place, entry)) [])
      ∙ ap (λ xs. before ++ xs) (sym (filter_map-append f some ((place, entry) ∷ [])))
      ∙ ap (λ xs. before ++ filter_map f xs) (sym is)

-- one owner more
pub flat_map-range_more : {X : Type 0} (f : ℕ → List X) (n : ℕ) → flat_map f (range_with_len 0 (n + 1)) ≡ flat_map f (range_with_len 0 n) ++ f n
flat_map-range_more f n =
    let same : (m : ℕ) → map (λ (k : ℕ). k) (range_with_len 0 m) ≡ range_with_len 0 m = λ m. map-id (range_with_len 0 m) in
    let longer : range_with_len 0 (n + 1) ≡ range_with_len 0 n ++ n ∷ [] =
    sym (same (n + 1)) ∙ map-range_with_len_more (λ (k : ℕ). k) 0 n n (omega arith) ∙ ap (λ xs. xs ++ n ∷ []) (same n) in
    ap (flat_map f) longer ∙ flat_map-append f (range_with_len 0 n) (n ∷ []) ∙ ap (λ xs. flat_map f (range_with_len 0 n) ++ xs) (append-nil (f n))

-- the lines so far, with those of one owner more
pub flat_map_more_owner : {X : Type 0} (own : List X) (f : ℕ → List X) (owner : ℕ) (lines after incoming : List X) → lines ≡ own ++ flat_map f (range_with_len 0 owner) → after ≡ lines ++ incoming → incoming ≡ f owner → after ≡ own ++ flat_map f (range_with_len 0 (owner + 1))
flat_map_more_owner own f owner lines after incoming so_far pushed e =
    pushed
    ∙ ap (λ xs. xs ++ incoming) so_far
    ∙ ap (λ xs. (own ++ flat_map f (range_with_len 0 owner)) ++ xs) e
    ∙ append_assoc own (flat_map f (range_with_len 0 owner)) (f owner)
    ∙ ap (λ xs. own ++ xs) (sym (flat_map-range_more f owner))
