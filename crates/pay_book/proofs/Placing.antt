-- The places of all accounts.
use Rattle.std.proofs.Common.{◌≡◌, ℕ, ◌+◌, ◌<◌, ◌≤◌, List, length, replicate, get_or, ap, ◌∙◌, sym, subst, arith, inl, inr}
use Rattle.std.specs.Prelude.{slice_set, slice_index}
use Rattle.std.proofs.lemmas.Bool.{cases_eq}
use Rattle.std.proofs.lemmas.List.{length-replicate, get_or-replicate, length-set, get_or-set_same, get_or-set_other}
use Rattle.std.proofs.lemmas.List.FromFn.{length-map-range_with_len, get_or-map-range_with_len, fill_by_all}
use Rattle.pay_book.specs.Payment.{count_in, entries_in, entries_of}
use Rattle.pay_book.specs.Places.{Place, place_in, place_of, ArePlaces, places_of}
use Rattle.pay_book.specs.Front.{IsOneFurther, AllGrow}
use Rattle.pay_book.specs.Book.{Standing, IsBook, entries_for}
use Rattle.pay_book.proofs.Places.{place_zero, place_in-append, place_value-within}
use Rattle.pay_book.proofs.Entries.{count_in-some, length-entries_in}
use Rattle.pay_book.proofs.Reaching.{zero_front, Reach-within}

-- places stay as lists grow at their ends
pub ArePlaces-grown : (accounts : ℕ) (old new : ℕ → List (List ℕ)) (front : ℕ → ℕ) (places : List Place) → AllGrow accounts old new → ((a : ℕ) → front a ≤ length (entries_of accounts old a)) → ArePlaces accounts old front places → ArePlaces accounts new front places
unfolding entries_of
ArePlaces-grown accounts old new front places grow within are = record {
  one_for_each = are.one_for_each;
  exact = λ a h. are.exact a h
      ∙ sym (ap (λ values. place_in count_in values (front a)) (grow a h).is
      ∙ place_in-append count_in (entries_in accounts a) (length-entries_in accounts a) (old a) (grow a h).rest (front a) count_in-some (within a));
}

-- where nothing is settled
pub ArePlaces-fresh : (accounts : ℕ) (lists : ℕ → List (List ℕ)) → ArePlaces accounts lists (λ a. get_or (replicate accounts 0) a 0) (replicate accounts (0, 0))
ArePlaces-fresh accounts lists = record {
  one_for_each = length-replicate {A = Place} accounts (0, 0);
  exact = λ a h. get_or-replicate {A = Place} accounts a (0, 0) (0, 0) h
      ∙ sym (ap (place_in count_in (lists a)) (zero_front accounts a) ∙ place_zero count_in (lists a) count_in-some);
}

-- one entry more of an account
pub ArePlaces-stepped : (accounts : ℕ) (lists : ℕ → List (List ℕ)) (front next : ℕ → ℕ) (places : List Place) (a : ℕ) → a < accounts → IsOneFurther front a next → ArePlaces accounts lists front places → ArePlaces accounts lists next (slice_set places a (place_in count_in (lists a) (front a + 1)))
ArePlaces-stepped accounts lists front next places a below further are =
    let there = place_in count_in (lists a) (front a + 1) in
    let set = slice_set places a there in
    let none : Place = (0, 0) in
    record {
      one_for_each = length-set places a there ∙ are.one_for_each;
      exact = λ b h.
          elim (cases_eq b a) [
            | inl e ↦
                (let P : ℕ → Type 0 = λ x. place_of set x ≡ place_in count_in (lists x) (next x) in
                let long = are.one_for_each in
                subst P (sym e) (get_or-set_same places a there none (omega arith) ∙ ap (place_in count_in (lists a)) (sym further.moved)))
            | inr ne ↦ get_or-set_other places a b there none ne ∙ are.exact b h ∙ ap (place_in count_in (lists b)) (sym (further.others b ne))
          ];
    }

-- they are computed
pub places_of-are : (accounts : ℕ) (lists : ℕ → List (List ℕ)) (front : ℕ → ℕ) → ArePlaces accounts lists front (places_of accounts lists front)
unfolding places_of
places_of-are accounts lists front =
    let place : ℕ → Place = λ a. place_in count_in (lists a) (front a) in
    record {
      one_for_each = length-map-range_with_len place 0 accounts;
      exact = λ a h. get_or-map-range_with_len place 0 accounts a a (0, 0) h (omega arith);
    }

pub same_places : (accounts : ℕ) (lists : ℕ → List (List ℕ)) (front : ℕ → ℕ) (places : List Place) → ArePlaces accounts lists front places → places ≡ places_of accounts lists front
unfolding places_of
same_places accounts lists front places are =
    let place : ℕ → Place = λ a. place_in count_in (lists a) (front a) in
    let none : Place = (0, 0) in
    fill_by_all place places accounts none are.one_for_each are.exact

-- a book's place is within the account's list
pub book_place-within : (lists : ℕ → List (List ℕ)) (book : Standing) (a : ℕ) → IsBook lists book → a < length book.opening → (place_of book.places a).0 ≤ length (lists a)
unfolding entries_of
book_place-within lists book a is below =
    let within = Reach-within book.opening (entries_for book lists) is.reached a in
    let there = place_value-within count_in (entries_in (length book.opening) a) (length-entries_in (length book.opening) a) (lists a) (slice_index book.front a) within in
    let same = ap (λ (p : Place). p.0) (is.placed.exact a below) in
    omega arith
