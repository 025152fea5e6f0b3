-- What an owner's list of values is as entries.
use Rattle.std.proofs.Common.{◌≡◌, ℕ, zero, suc, ◌*◌, ◌<◌, ◌≤◌, ◌+◌, true, false, eqb, ltb, ◌&&◌, not, List, [], ◌∷◌, ◌++◌, length, map, refl, ap, ◌∙◌, sym, subst, arith, inl, inr}
use Rattle.std.specs.Prelude.{slice_get, slice_index, slice_range, Some, None, All}
use Rattle.std.specs.List.{flat_map, range_with_len}
use Rattle.std.specs.Int.{from_be_bytes, w16, w64}
use Rattle.std.proofs.lemmas.Bool.{and_parts, cases_Bool, cases_lt, eqb-true, ltb-true, leb-true, cond-true, cond-false, cond_both}
use Rattle.std.proofs.lemmas.List.{length-append}
use Rattle.std.proofs.lemmas.List.Concat.{flat_map-append}
use Rattle.std.proofs.lemmas.List.Elements.{All-nil, All-cons, All-head, All-tail, All-append, All-map, All-from_get_or, All-get_or}
use Rattle.std.proofs.lemmas.List.FromFn.{length-map-range_with_len, get_or-map-range_with_len}
use Rattle.std.proofs.lemmas.Option.{slice_get-get_or, slice_get_past, slice_get_within, get_or_from_slice_get}
use Rattle.pay_channel.specs.Prefix.{IsPrefix}
use Rattle.pay_book.specs.declared.payment.Entry.{Entry}
use Rattle.pay_book.specs.declared.payment.TheConstants.{PAYMENT_LENGTH, PAYMENT_VERSION, PAIR_LENGTH}
use Rattle.pay_book.specs.declared.payment.Entry.TheVariants.{Pay, Void}
use Rattle.pay_book.specs.Payment.{payment, entry_of, is_several, pair_at, pair_entry, count_in, most_entries, entries_in, entries_of}
use Rattle.pay_book.specs.Places.{Place, place_in, place_after}
use Rattle.pay_book.specs.Balance.{PayWithin, AllPayWithin}
use Rattle.pay_book.specs.Front.{AllGrow}
use Rattle.pay_book.proofs.Places.{entry_from, entry_from-some, entry_from-none, slice_get-flat_map, place-within, place_in-more, place_value-le}

-- a value of several payments says how many, 1 to 32; any other is one entry
pub count_in-some : (value : List ℕ) → 0 < count_in value
unfolding count_in is_several
count_in-some value =
    cond_both (is_several value) (slice_index value 1) 1 (λ n. 0 < n)
    (λ e. ltb-true 0 (slice_index value 1) (and_parts _ _ (and_parts _ _ (and_parts _ _ e).0).0).1) (λ e. omega arith)

pub count_in-few : (value : List ℕ) → count_in value ≤ most_entries
unfolding count_in is_several
count_in-few value =
    cond_both (is_several value) (slice_index value 1) 1 (λ n. n ≤ most_entries)
    (λ e. leb-true (slice_index value 1) most_entries (and_parts _ _ (and_parts _ _ e).0).1) (λ e. omega arith)

pub length-entries_in : (accounts owner : ℕ) (value : List ℕ) → length (entries_in accounts owner value) ≡ count_in value
unfolding entries_in count_in
length-entries_in accounts owner value =
    elim (cases_Bool (is_several value)) [
      | inl several ↦
          ap length (cond-true (is_several value) _ _ several)
          ∙ length-map-range_with_len (λ place. pair_entry accounts owner (pair_at value place)) 0 (slice_index value 1)
          ∙ sym (cond-true (is_several value) (slice_index value 1) 1 several)
      | inr one ↦ ap length (cond-false (is_several value) _ _ one) ∙ sym (cond-false (is_several value) (slice_index value 1) 1 one)
    ]

-- both shapes, for the code that reads them
pub several_is_long : (value : List ℕ) → is_several value ≡ true → length value ≡ 2 + PAIR_LENGTH * slice_index value 1
unfolding is_several
several_is_long value several = eqb-true (length value) (2 + PAIR_LENGTH * slice_index value 1) (and_parts _ _ several).1

pub count_in-several : (value : List ℕ) → is_several value ≡ true → count_in value ≡ slice_index value 1
unfolding count_in
count_in-several value several = cond-true (is_several value) (slice_index value 1) 1 several

pub slice_get-several : (accounts owner : ℕ) (value : List ℕ) (place : ℕ) → is_several value ≡ true → place < count_in value → slice_get (entries_in accounts owner value) place ≡ Some (pair_entry accounts owner (pair_at value place))
unfolding entries_in
slice_get-several accounts owner value place several h =
    let pair : ℕ → Entry = λ k. pair_entry accounts owner (pair_at value k) in
    let count = slice_index value 1 in
    let all = map pair (range_with_len 0 count) in
    let long = length-map-range_with_len pair 0 count in
    let same = count_in-several value several in
    ap (λ es. slice_get es place) (cond-true (is_several value) all (entry_of accounts owner value ∷ []) several)
    ∙ slice_get-get_or all place Void (omega arith)
    ∙ ap Some (get_or-map-range_with_len pair 0 count place place Void (omega arith) (omega arith))

pub slice_get-single : (accounts owner : ℕ) (value : List ℕ) (place : ℕ) → is_several value ≡ false → place < count_in value → slice_get (entries_in accounts owner value) place ≡ Some (entry_of accounts owner value)
unfolding entries_in count_in
slice_get-single accounts owner value place single h =
    let one = cond-false (is_several value) (slice_index value 1) 1 single in
    let first : place ≡ 0 = omega arith in
    ap (λ es. slice_get es place) (cond-false (is_several value) _ (entry_of accounts owner value ∷ []) single)
    ∙ ap (slice_get (entry_of accounts owner value ∷ [])) first

-- the entry that comes next is in the value at the place
pub slice_get-entries_of : (accounts : ℕ) (lists : ℕ → List (List ℕ)) (owner number : ℕ) →
    slice_get (entries_of accounts lists owner) number
    ≡ entry_from (entries_in accounts owner) (slice_get (lists owner) (place_in count_in (lists owner) number).0) (place_in count_in (lists owner) number).1
unfolding entries_of
slice_get-entries_of accounts lists owner number =
    slice_get-flat_map count_in (entries_in accounts owner) (length-entries_in accounts owner) (lists owner) number

pub next_entry_is : (accounts : ℕ) (lists : ℕ → List (List ℕ)) (owner number : ℕ) (place : Place) (value : List ℕ) → place ≡ place_in count_in (lists owner) number → slice_get (lists owner) place.0 ≡ Some value → slice_get (entries_of accounts lists owner) number ≡ slice_get (entries_in accounts owner value) place.1
next_entry_is accounts lists owner number place value at there =
    slice_get-entries_of accounts lists owner number
    ∙ ap (λ (p : Place). entry_from (entries_in accounts owner) (slice_get (lists owner) p.0) p.1) (sym at)
    ∙ entry_from-some (entries_in accounts owner) (slice_get (lists owner) place.0) value place.1 there

pub next_entry_none : (accounts : ℕ) (lists : ℕ → List (List ℕ)) (owner number : ℕ) (place : Place) → place ≡ place_in count_in (lists owner) number → length (lists owner) ≤ place.0 → slice_get (entries_of accounts lists owner) number ≡ None
next_entry_none accounts lists owner number place at past =
    slice_get-entries_of accounts lists owner number
    ∙ ap (λ (p : Place). entry_from (entries_in accounts owner) (slice_get (lists owner) p.0) p.1) (sym at)
    ∙ entry_from-none (entries_in accounts owner) (slice_get (lists owner) place.0) place.1 (slice_get_past (lists owner) place.0 past)

-- the place is in a value, and before its end
pub place_is_in : (lists : ℕ → List (List ℕ)) (owner number : ℕ) (place : Place) (value : List ℕ) → place ≡ place_in count_in (lists owner) number → slice_get (lists owner) place.0 ≡ Some value → place.1 < count_in value
place_is_in lists owner number place value at =
    let P : Place → Type 0 = λ p. slice_get (lists owner) p.0 ≡ Some value → p.1 < count_in value in
    subst P (sym at) (place-within count_in (lists owner) number value)

-- one entry further
pub next_place_is : (lists : ℕ → List (List ℕ)) (owner number : ℕ) (place : Place) (value : List ℕ) → place ≡ place_in count_in (lists owner) number → slice_get (lists owner) place.0 ≡ Some value → place_after (count_in value) place ≡ place_in count_in (lists owner) (number + 1)
next_place_is lists owner number place value at =
    let P : Place → Type 0 = λ p. slice_get (lists owner) p.0 ≡ Some value → place_after (count_in value) p ≡ place_in count_in (lists owner) (number + 1) in
    subst P (sym at) (λ there. sym (place_in-more count_in (lists owner) number value count_in-some there))

-- a place is no farther than the number says
pub place_is_low : (lists : ℕ → List (List ℕ)) (owner number : ℕ) (place : Place) → place ≡ place_in count_in (lists owner) number → place.0 ≤ number
place_is_low lists owner number place at =
    let P : Place → Type 0 = λ p. p.0 ≤ number in
    subst P (sym at) (place_value-le count_in (lists owner) number count_in-some)

-- an owner that has an entry to come has a value to come
pub value_to_come : (accounts : ℕ) (lists : ℕ → List (List ℕ)) (owner number : ℕ) (place : Place) → place ≡ place_in count_in (lists owner) number → number < length (entries_of accounts lists owner) → place.0 < length (lists owner)
value_to_come accounts lists owner number place at h =
    elim (cases_lt place.0 (length (lists owner))) [
      | inl below ↦ below
      | inr past ↦
          (let none = next_entry_none accounts lists owner number place at past in
          absurd (nothing (entries_of accounts lists owner) number h none))
    ]
  where
    nothing : (entries : List Entry) (number : ℕ) → number < length entries → slice_get entries number ≡ None → ⊥
    nothing [] number h e = omega arith
    nothing (x ∷ xs) number h e = let some = slice_get-get_or (x ∷ xs) number x h in cc

-- a value's entries are few, so a list's are at most that often its values
pub length-entries_in-le : (accounts owner : ℕ) (value : List ℕ) → length (entries_in accounts owner value) ≤ most_entries
length-entries_in-le accounts owner value = omega (arith, length-entries_in accounts owner value, count_in-few value)

length-flat_map-le : (f : List ℕ → List Entry) (values : List (List ℕ)) (most count : ℕ) → ((value : List ℕ) → length (f value) ≤ most) → length values ≤ count → length (flat_map f values) ≤ count * most
length-flat_map-le f [] most count few h = omega arith
length-flat_map-le f (value ∷ values) most zero few h = absurd (omega arith)
length-flat_map-le f (value ∷ values) most (suc count) few h =
    let rest = length-flat_map-le f values most count few (omega arith) in
    let here = few value in
    let both = length-append (f value) (flat_map f values) in
    omega arith

pub length-entries_of-le : (accounts : ℕ) (lists : ℕ → List (List ℕ)) (owner most : ℕ) → length (lists owner) ≤ most → length (entries_of accounts lists owner) ≤ most * most_entries
unfolding entries_of
length-entries_of-le accounts lists owner most short =
    length-flat_map-le (entries_in accounts owner) (lists owner) most_entries most (length-entries_in-le accounts owner) short

-- where no value is of several payments, an owner's entries are its values' one by one
pub flat_map-single_where : {X A : Type 0} (P : X → Type 0) (f : X → List A) (g : X → A) (xs : List X) → ((x : X) → P x → f x ≡ g x ∷ []) → All P xs → flat_map f xs ≡ map g xs
flat_map-single_where P f g [] same all = refl
flat_map-single_where {A = A} P f g (x ∷ xs) same all =
    let here : f x ≡ g x ∷ [] = same x (All-head P x xs all) in
    let rest = flat_map-single_where P f g xs same (All-tail P x xs all) in
    ap (λ (ys : List A). ys ++ flat_map f xs) here ∙ ap (λ (ys : List A). g x ∷ ys) rest

pub entries_in-single : (accounts owner : ℕ) (value : List ℕ) → is_several value ≡ false → entries_in accounts owner value ≡ entry_of accounts owner value ∷ []
unfolding entries_in
entries_in-single accounts owner value one = cond-false (is_several value) _ _ one

pub entries_of-map : (accounts : ℕ) (lists : ℕ → List (List ℕ)) (owner : ℕ) → All (λ v. is_several v ≡ false) (lists owner) → entries_of accounts lists owner ≡ map (entry_of accounts owner) (lists owner)
unfolding entries_of
entries_of-map accounts lists owner single =
    flat_map-single_where (λ v. is_several v ≡ false) (entries_in accounts owner) (entry_of accounts owner) (lists owner) (entries_in-single accounts owner) single

-- longer lists have longer entries
pub entries_of-prefix : (accounts : ℕ) (old new : ℕ → List (List ℕ)) (a : ℕ) → IsPrefix (old a) (new a) → IsPrefix (entries_of accounts old a) (entries_of accounts new a)
unfolding entries_of
entries_of-prefix accounts old new a prefix = record {
  rest = flat_map (entries_in accounts a) prefix.rest;
  is = ap (flat_map (entries_in accounts a)) prefix.is ∙ flat_map-append (entries_in accounts a) (old a) prefix.rest;
}

pub entries_of-grow : (accounts : ℕ) (old new : ℕ → List (List ℕ)) → AllGrow accounts old new → AllGrow accounts (entries_of accounts old) (entries_of accounts new)
entries_of-grow accounts old new grow a h = entries_of-prefix accounts old new a (grow a h)

pub entries_of-same : (accounts : ℕ) (one other : ℕ → List (List ℕ)) (a : ℕ) → one a ≡ other a → entries_of accounts one a ≡ entries_of accounts other a
unfolding entries_of
entries_of-same accounts one other a e = ap (flat_map (entries_in accounts a)) e

-- a payment goes to an account that is there
payment-within : (accounts owner payee amount : ℕ) → PayWithin accounts (payment accounts owner payee amount)
payment-within accounts owner payee amount =
    cond_both (ltb payee accounts && not (eqb payee owner) && not (eqb amount 0)) (Pay payee amount) Void (PayWithin accounts)
    (λ e. ltb-true payee accounts (and_parts _ _ (and_parts _ _ e).0).0) (λ e. tt)

pub pair_entry-within : (accounts owner : ℕ) (pair : List ℕ) → PayWithin accounts (pair_entry accounts owner pair)
unfolding pair_entry
pair_entry-within accounts owner pair = payment-within accounts owner (from_be_bytes w16 (slice_range pair 0 2)) (from_be_bytes w64 (slice_range pair 2 PAIR_LENGTH))

pub entry_of-within : (accounts owner : ℕ) (value : List ℕ) → PayWithin accounts (entry_of accounts owner value)
unfolding entry_of
entry_of-within accounts owner value =
    let pair = slice_range value 1 PAYMENT_LENGTH in
    cond_both (eqb (length value) PAYMENT_LENGTH && eqb (slice_index value 0) PAYMENT_VERSION)
    (pair_entry accounts owner pair) Void (PayWithin accounts)
    (λ e. pair_entry-within accounts owner pair) (λ e. tt)

entries_in-within : (accounts owner : ℕ) (value : List ℕ) → All (PayWithin accounts) (entries_in accounts owner value)
unfolding entries_in
entries_in-within accounts owner value =
    let W : Entry → Type 0 = PayWithin accounts in
    let pair : ℕ → Entry = λ place. pair_entry accounts owner (pair_at value place) in
    let places = range_with_len 0 (slice_index value 1) in
    cond_both (is_several value) (map pair places) (entry_of accounts owner value ∷ []) (All W)
    (λ e. All-map W pair places (All-from_get_or (λ place. W (pair place)) places 0 (λ i _. pair_entry-within accounts owner _)))
    (λ e. All-cons W (entry_of accounts owner value) [] (entry_of-within accounts owner value) (All-nil W))

All-flat_map : {X A : Type 0} (P : A → Type 0) (f : X → List A) (xs : List X) → ((x : X) → All P (f x)) → All P (flat_map f xs)
All-flat_map P f [] each = All-nil P
All-flat_map P f (x ∷ xs) each = All-append P (f x) (flat_map f xs) (each x) (All-flat_map P f xs each)

pub entries_of-within : (accounts : ℕ) (lists : ℕ → List (List ℕ)) → AllPayWithin accounts (entries_of accounts lists)
unfolding entries_of
entries_of-within accounts lists owner h =
    All-flat_map (PayWithin accounts) (entries_in accounts owner) (lists owner) (entries_in-within accounts owner)

pub entry-within : (accounts : ℕ) (lists : ℕ → List (List ℕ)) (owner place : ℕ) (entry : Entry) → owner < accounts → slice_get (entries_of accounts lists owner) place ≡ Some entry → PayWithin accounts entry
entry-within accounts lists owner place entry h there =
    let log = entries_of accounts lists owner in
    let P : Entry → Type 0 = PayWithin accounts in
    subst P (get_or_from_slice_get log place entry entry there)
    (All-get_or (PayWithin accounts) log place entry (slice_get_within log place entry there) (entries_of-within accounts lists owner h))
