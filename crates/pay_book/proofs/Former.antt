-- What values of several payments leave as it was, and what a place says of whole values.
use Rattle.std.proofs.Common.{◌≡◌, ℕ, zero, suc, ◌+◌, ◌<◌, ◌≤◌, false, List, [], ◌∷◌, ◌++◌, length, map, take, slice_index, refl, ap, ap₂, sym, subst, arith}
use Rattle.std.specs.Prelude.{◌↔◌, slice_get, Some, All}
use Rattle.std.specs.List.{flat_map, filter_map, enumerate_from, range_with_len}
use Rattle.std.proofs.lemmas.Bool.{cond-false}
use Rattle.std.proofs.lemmas.List.Elements.{All-nil, All-cons, All-head, All-tail, All-weaker}
use Rattle.std.proofs.Math.Numerals.{add-one}
use Rattle.pay_book.specs.declared.line.Line.{Line}
use Rattle.pay_book.specs.Payment.{entry_of, is_several, count_in, entries_in, entries_of}
use Rattle.pay_book.specs.Places.{Place, place_in, place_of}
use Rattle.pay_book.specs.Book.{Standing, entries_for, IsBook}
use Rattle.pay_book.specs.Statement.{numbered_entries_of, own_line, incoming_line, statement_of}
use Rattle.pay_book.specs.Laws.{AllSingle, former_entries_of, former_numbered_entries_of, IsAsFormer, TellsWhole}
use Rattle.pay_book.proofs.Places.{place-within, place_in-ones, place_value-within, place_adds_up, place_is_behind}
use Rattle.pay_book.proofs.Entries.{length-entries_in, entries_in-single, entries_of-map, flat_map-single_where}
use Rattle.pay_book.proofs.Reaching.{Reach-within}
use Rattle.pay_book.proofs.Growing.{balance_at-same}
use Rattle.pay_book.proofs.Computing.{largest_front-same}

count_in-single : (value : List ℕ) → is_several value ≡ false → count_in value ≡ 1
unfolding count_in
count_in-single value single = cond-false (is_several value) (slice_index value 1) 1 single

All-enumerate_from : {X : Type 0} (P : X → Type 0) (from : ℕ) (xs : List X) → All P xs → All (λ (v : ℕ × X). P v.1) (enumerate_from from xs)
All-enumerate_from {X} P from [] all = All-nil (λ (v : ℕ × X). P v.1)
All-enumerate_from {X} P from (x ∷ xs) all =
    All-cons (λ (v : ℕ × X). P v.1) (from, x) (enumerate_from (from + 1) xs) (All-head P x xs all) (All-enumerate_from P (from + 1) xs (All-tail P x xs all))

numbered-former : (accounts : ℕ) (lists : ℕ → List (List ℕ)) (owner : ℕ) → All (λ v. is_several v ≡ false) (lists owner) → numbered_entries_of accounts lists owner ≡ former_numbered_entries_of accounts lists owner
unfolding numbered_entries_of
numbered-former accounts lists owner single =
    flat_map-single_where (λ (v : ℕ × List ℕ). is_several v.1 ≡ false) (λ v. map (λ e. (v.0, e)) (entries_in accounts owner v.1)) (λ v. (v.0, entry_of accounts owner v.1)) (enumerate_from 0 (lists owner))
    (λ v one. ap (map (λ e. (v.0, e))) (entries_in-single accounts owner v.1 one))
    (All-enumerate_from (λ v. is_several v ≡ false) 0 (lists owner) single)

flat_map-range_same : {X : Type 0} (f g : ℕ → List X) (from n : ℕ) → ((a : ℕ) → a < from + n → f a ≡ g a) → flat_map f (range_with_len from n) ≡ flat_map g (range_with_len from n)
flat_map-range_same f g from zero same = refl
flat_map-range_same f g from (suc n) same =
    ap₂ (λ xs ys. xs ++ ys) (same from (omega arith)) (flat_map-range_same f g (from + 1) n (λ a h. same a (omega arith)))

pub is_as_former : (opening : List ℕ) (lists : ℕ → List (List ℕ)) → AllSingle (length opening) lists → IsAsFormer opening lists
unfolding statement_of
is_as_former opening lists single =
    let n = length opening in
    let now = entries_of n lists in
    let former = former_entries_of n lists in
    let same : (a : ℕ) → a < n → now a ≡ former a = λ a h. entries_of-map n lists a (single a h) in
    record {
      entries = same;
      front = largest_front-same opening now former same;
      balances = λ front a h. balance_at-same opening now former front same a h;
      places = λ a number h within.
          place_in-ones count_in (lists a) number (All-weaker (λ v. is_several v ≡ false) (λ v. count_in v ≡ 1) count_in-single (lists a) (single a h)) within;
      statement = λ front a h.
          ap₂ (λ (xs ys : List Line). xs ++ ys)
          (ap (λ es. map (λ e. own_line e.0 e.1) (take (front a) es)) (numbered-former n lists a (single a h)))
          (flat_map-range_same _ _ 0 n (λ owner below.
          ap (λ es. filter_map (λ e. incoming_line a owner e.0 e.1) (take (front owner) es)) (numbered-former n lists owner (single owner (omega arith)))));
    }

pub tells_whole : (lists : ℕ → List (List ℕ)) (book : Standing) (a : ℕ) → IsBook lists book → a < length book.opening → TellsWhole lists book a
unfolding entries_of
tells_whole lists book a is h =
    let n = length book.opening in
    let values = lists a in
    let number = slice_index book.front a in
    let f = entries_in n a in
    let counts = length-entries_in n a in
    let at : place_of book.places a ≡ place_in count_in values number = is.placed.exact a h in
    let inside = Reach-within book.opening (entries_for book lists) is.reached a in
    let In : Place → Type 0 = λ p. p.0 ≤ length values in
    let Part : Place → Type 0 = λ p. (value : List ℕ) → slice_get values p.0 ≡ Some value → p.1 < count_in value in
    let Adds : Place → Type 0 = λ p. length (flat_map f (take p.0 values)) + p.1 ≡ number in
    let Whole : Place → Type 0 = λ p. (s : ℕ) → s < length values → (s < p.0) ↔ (length (flat_map f (take (s + 1) values)) ≤ number) in
    let Up : ℕ → ℕ → Type 0 = λ s more. (s < (place_in count_in values number).0) ↔ (length (flat_map f (take more values)) ≤ number) in
    record {
      within = subst In (sym at) (place_value-within count_in f counts values number inside);
      part = subst Part (sym at) (λ value there. place-within count_in values number value there);
      adds_up = subst Adds (sym at) (place_adds_up count_in f counts values number);
      whole = subst Whole (sym at) (λ s below. subst (Up s) (sym (add-one s)) (place_is_behind count_in f counts values number s below));
    }
