-- The values that are settled wholly.
use Rattle.std.proofs.Common.{◌≡◌, ℕ, ◌<◌, ◌≤◌, List, ◌++◌, length, take, drop, slice_index, ap, ◌∙◌, sym, subst, arith, inl, inr}
use Rattle.std.specs.List.{flat_map}
use Rattle.std.proofs.lemmas.Bool.{cases_lt}
use Rattle.std.proofs.lemmas.List.{take_all, take-append-le, take-append-drop, get_or_past}
use Rattle.std.proofs.lemmas.List.Concat.{flat_map-append}
use Rattle.pay_channel.specs.Prefix.{IsPrefix}
use Rattle.pay_book.specs.declared.payment.Entry.{Entry}
use Rattle.pay_book.specs.Payment.{count_in, entries_in, entries_of}
use Rattle.pay_book.specs.Places.{Place, place_in, place_of}
use Rattle.pay_book.specs.Front.{AllGrow}
use Rattle.pay_book.specs.Settled.{settled_front, settled_book, settled_entries, settled_place, settled_values}
use Rattle.pay_book.proofs.Computing.{largest_front_is_largest}
use Rattle.pay_book.proofs.Places.{place_zero, place_in-append, place_value-mono, place_adds_up}
use Rattle.pay_book.proofs.Entries.{count_in-some, length-entries_in}
use Rattle.pay_book.proofs.Placing.{places_of-are}
use Rattle.pay_book.proofs.Settled.{settled_front-within, settled_front-grows, take-prefix}

pub settled_book_tells_places : (opening : List ℕ) (lists : ℕ → List (List ℕ)) (a : ℕ) → a < length opening → place_of (settled_book opening lists).places a ≡ settled_place opening lists a
settled_book_tells_places opening lists a h = (places_of-are (length opening) lists (slice_index (settled_front opening lists))).exact a h

-- an account that isn't there has settled nothing
nothing_outside : (opening : List ℕ) (lists : ℕ → List (List ℕ)) (a : ℕ) → length opening ≤ a → slice_index (settled_front opening lists) a ≡ 0
nothing_outside opening lists a h =
    let long = (largest_front_is_largest opening (entries_of (length opening) lists)).0 in
    get_or_past (settled_front opening lists) a 0 (omega arith)

pub settled_places_grow : (opening : List ℕ) (old new : ℕ → List (List ℕ)) → AllGrow (length opening) old new → (a : ℕ) → (settled_place opening old a).0 ≤ (settled_place opening new a).0
unfolding entries_of
settled_places_grow opening old new grow a =
    let n = length opening in
    let before = slice_index (settled_front opening old) a in
    let after = slice_index (settled_front opening new) a in
    let P : Place → Type 0 = λ p. p.0 ≤ (settled_place opening new a).0 in
    elim (cases_lt a n) [
      | inl below ↦
          (let same : place_in count_in (new a) before ≡ place_in count_in (old a) before =
          ap (λ values. place_in count_in values before) (grow a below).is
          ∙ place_in-append count_in (entries_in n a) (length-entries_in n a) (old a) (grow a below).rest before count_in-some (settled_front-within opening old a) in
          subst P same (place_value-mono count_in (new a) before after (settled_front-grows opening old new grow a)))
      | inr past ↦
          (let none = ap (place_in count_in (old a)) (nothing_outside opening old a past) ∙ place_zero count_in (old a) count_in-some in
          subst P (sym none) (omega arith))
    ]

-- the entries of some first values are the first of all
first_entries : {X A : Type 0} (f : X → List A) (xs : List X) (k : ℕ) → take (length (flat_map f (take k xs))) (flat_map f xs) ≡ flat_map f (take k xs)
first_entries f xs k =
    let some = flat_map f (take k xs) in
    let split : flat_map f xs ≡ some ++ flat_map f (drop k xs) =
    ap (flat_map f) (sym (take-append-drop k xs)) ∙ flat_map-append f (take k xs) (drop k xs) in
    ap (take (length some)) split ∙ take-append-le (length some) some (flat_map f (drop k xs)) (omega arith) ∙ take_all (length some) some (omega arith)

pub settled_values_begin_entries : (opening : List ℕ) (lists : ℕ → List (List ℕ)) (a : ℕ) → IsPrefix (flat_map (entries_in (length opening) a) (settled_values opening lists a)) (settled_entries opening lists a)
unfolding entries_of
settled_values_begin_entries opening lists a =
    let n = length opening in
    let f = entries_in n a in
    let number = slice_index (settled_front opening lists) a in
    let values = settled_values opening lists a in
    let adds = place_adds_up count_in f (length-entries_in n a) (lists a) number in
    let P : List Entry → Type 0 = λ xs. IsPrefix xs (take number (flat_map f (lists a))) in
    subst P (first_entries f (lists a) (settled_place opening lists a).0)
    (take-prefix (length (flat_map f values)) number (flat_map f (lists a)) (omega arith))
