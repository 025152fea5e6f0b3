-- From what a book shows to what it can do next.
use Rattle.std.proofs.Common.{◌≡◌, ℕ, ◌*◌, ◌<◌, ◌≤◌, ◌^◌, ℤ, pos, List, [], length, replicate, take, sum, sum_by, slice_index, get_or, refl, ap, ◌∙◌, sym, subst, arith, inl, inr}
use Rattle.std.proofs.lemmas.Int.{ints}
use Rattle.std.proofs.lemmas.Bool.{cases_eq}
use Rattle.std.proofs.lemmas.List.{append-nil, length-replicate}
use Rattle.std.proofs.lemmas.Grind.{same_number_lists}
use Rattle.pay_frame.specs.declared.limits.TheConstants.{SEQS, MOST_MEMBERS}
use Rattle.pay_channel.specs.Prefix.{IsPrefix}
use Rattle.pay_channel.specs.Source.{GrowsOnly}
use Rattle.pay_book.specs.declared.payment.Entry.{Entry}
use Rattle.pay_book.specs.Payment.{most_entries, entries_of}
use Rattle.pay_book.specs.Balance.{amount_of, amount_to, paid_in, paid_out, balance_at}
use Rattle.pay_book.specs.Front.{MayStep, Start, IsLargest, entry_count, largest_front, AllGrow}
use Rattle.pay_book.specs.Book.{Standing, fresh, entries_for, IsBook, IsSettled, AreCountable, CanSettle}
use Rattle.pay_book.proofs.Sums.{sum_below-le, sum_below-same, sum_below-zero, sum_below-bounded}
use Rattle.pay_book.proofs.Conserving.{sum-places}
use Rattle.pay_book.proofs.Reaching.{zero_front, Reach-within, within_from_Covers, largest_from_stuck, largest_is_stuck}
use Rattle.pay_book.proofs.Growing.{balance_at-grown, MayStep-same_list, Reach-grown, AllGrow-same}
use Rattle.pay_book.proofs.Computing.{largest_front_is_largest, same_largest_front, largest_front-same}
use Rattle.pay_book.specs.Places.{Place, places_of}
use Rattle.pay_book.proofs.Entries.{length-entries_of-le, entries_of-grow, entries_of-same}
use Rattle.pay_book.proofs.Placing.{ArePlaces-grown, ArePlaces-fresh, same_places}

-- one owner's growth is growth
pub AllGrow-from_one : (old new : ℕ → List (List ℕ)) (owner accounts : ℕ) → GrowsOnly old new owner → AllGrow accounts old new
AllGrow-from_one old new owner accounts grows a h =
    elim (cases_eq a owner) [
      | inl e ↦ (let P : ℕ → Type 0 = λ x. IsPrefix (old x) (new x) in subst P (sym e) (record { rest = grows.grown.0; is = grows.grown.1 }))
      | inr ne ↦ record { rest = []; is = grows.others a ne ∙ sym (append-nil (old a)) }
    ]

-- a settled book's front is the largest
pub settled_is_largest : (lists : ℕ → List (List ℕ)) (book : Standing) → IsSettled lists book → IsLargest book.opening (entries_for book lists) (slice_index book.front)
settled_is_largest lists book settled =
    let P : List ℕ → Type 0 = λ front. IsLargest book.opening (entries_for book lists) (slice_index front) in
    subst P (sym settled.largest) (largest_front_is_largest book.opening (entries_for book lists)).1

-- a book in which no account may step is settled
pub settled_from_stuck : (lists : ℕ → List (List ℕ)) (book : Standing) → IsBook lists book → ((a : ℕ) → MayStep book.opening (entries_for book lists) (slice_index book.front) a → ⊥) → IsSettled lists book
settled_from_stuck lists book is stuck = record {
  is = is;
  largest = same_largest_front book.opening (entries_for book lists) book.front is.one_for_each (largest_from_stuck book.opening (entries_for book lists) (slice_index book.front) is.reached stuck);
}

-- a book is one over longer lists too
pub IsBook-grown : (old new : ℕ → List (List ℕ)) (book : Standing) → AllGrow (length book.opening) old new → IsBook old book → IsBook new book
IsBook-grown old new book grow is =
    let n = length book.opening in
    let entries_grow = entries_of-grow n old new grow in
    record {
      reached = Reach-grown book.opening (entries_for book old) (entries_for book new) entries_grow is.reached;
      one_for_each = is.one_for_each;
      are = record {
        one_for_each = is.are.one_for_each;
        exact = λ a h. is.are.exact a h ∙ sym (balance_at-grown book.opening (entries_for book old) (entries_for book new) (slice_index book.front) a entries_grow (λ b _. Reach-within book.opening (entries_for book old) is.reached b) h);
      };
      placed = ArePlaces-grown n old new (slice_index book.front) book.places grow (Reach-within book.opening (entries_for book old) is.reached) is.placed;
    }

pub can_settle_grown : (old new : ℕ → List (List ℕ)) (book : Standing) (owner : ℕ) → IsSettled old book → GrowsOnly old new owner → owner < length book.opening → AreCountable new book → CanSettle new book owner
can_settle_grown old new book owner settled grows there countable =
    let n = length book.opening in
    let grow = AllGrow-from_one old new owner n grows in
    let entries_grow = entries_of-grow n old new grow in
    let stuck = largest_is_stuck book.opening (entries_for book old) (slice_index book.front) (settled_is_largest old book settled) in
    record {
      countable = countable;
      is = IsBook-grown old new book grow settled.is;
      account = there;
      only_owner = λ a ne may. stuck a (MayStep-same_list book.opening (entries_for book old) (entries_for book new) (slice_index book.front) a entries_grow (λ b _. Reach-within book.opening (entries_for book old) settled.is.reached b) (entries_of-same n new old a (grows.others a ne)) may);
    }

-- where nothing is settled, nothing was paid
fresh_balance : (opening : List ℕ) (logs : ℕ → List Entry) (front : ℕ → ℕ) → ((a : ℕ) → front a ≡ 0) → (a : ℕ) → pos (slice_index opening a) ≡ balance_at opening logs front a
fresh_balance opening logs front zeros a =
    let none : (f : Entry → ℕ) (owner : ℕ) → sum_by f (take (front owner) (logs owner)) ≡ 0 =
    λ f owner. ap (λ k. sum_by f (take k (logs owner))) (zeros owner) in
    let came : paid_in (length opening) logs front a ≡ 0 =
    sum_below-same (length opening) _ (λ _. 0) (λ owner _. none (amount_to a) owner) ∙ sum_below-zero (length opening) in
    let went : paid_out logs front a ≡ 0 = none amount_of a in
    omega (arith, ints)

pub fresh_is_book : (opening : List ℕ) (lists : ℕ → List (List ℕ)) → IsBook lists (fresh opening)
fresh_is_book opening lists =
    let n = length opening in
    record {
      reached = Start (zero_front n);
      one_for_each = length-replicate {A = ℕ} n 0;
      are = record { one_for_each = refl; exact = λ a _. fresh_balance opening (entries_of n lists) (slice_index (replicate n 0)) (zero_front n) a };
      placed = ArePlaces-fresh n lists;
    }

pub fresh_is_settled : (opening : List ℕ) (lists : ℕ → List (List ℕ)) → ((a : ℕ) → a < length opening → length (lists a) ≡ 0) → IsSettled lists (fresh opening)
fresh_is_settled opening lists empty =
    let n = length opening in
    settled_from_stuck lists (fresh opening) (fresh_is_book opening lists)
    (λ a may.
    let inside = within_from_Covers (balance_at opening (entries_of n lists) (slice_index (replicate n 0)) a) (entries_of n lists a) (slice_index (replicate n 0) a) may.1 in
    let none = empty a may.0 in
    let long = length-entries_of-le n lists a 0 (omega arith) in
    omega arith)

-- no more is settled than is listed
pub sum_front-le : (lists : ℕ → List (List ℕ)) (book : Standing) → IsBook lists book → sum book.front ≤ entry_count (length book.opening) (entries_for book lists)
sum_front-le lists book is =
    let n = length book.opening in
    let settled = sum-places book.front n is.one_for_each in
    let within = sum_below-le n (slice_index book.front) (λ a. length (entries_for book lists a)) (λ a _. Reach-within book.opening (entries_for book lists) is.reached a) in
    omega arith

-- a book over lists that are the same for its accounts
pub IsSettled-same : (old new : ℕ → List (List ℕ)) (book : Standing) → ((a : ℕ) → a < length book.opening → old a ≡ new a) → IsSettled old book → IsSettled new book
IsSettled-same old new book same settled = record {
  is = IsBook-grown old new book (AllGrow-same (length book.opening) old new (λ a h. sym (same a h))) settled.is;
  largest = settled.largest ∙ largest_front-same book.opening (entries_for book old) (entries_for book new) (λ a h. entries_of-same (length book.opening) old new a (same a h));
}

-- books with the same opening balances over the same lists
pub same_books : (lists : ℕ → List (List ℕ)) (p q : Standing) → p.opening ≡ q.opening → IsSettled lists p → IsSettled lists q → p ≡ q
same_books lists p q opening at_p at_q =
    let n = length p.opening in
    let largest : List ℕ → List ℕ = λ o. largest_front o (entries_of (length o) lists) in
    let front : p.front ≡ q.front = at_p.largest ∙ ap largest opening ∙ sym at_q.largest in
    let lengths = ap length opening in
    let balances : p.balances ≡ q.balances =
    same_number_lists p.balances q.balances (at_p.is.are.one_for_each ∙ lengths ∙ sym at_q.is.are.one_for_each)
    (λ k h.
    let below : k < length p.opening = (let e = at_p.is.are.one_for_each in omega arith) in
    let at_p_k = at_p.is.are.exact k below in
    let at_q_k = at_q.is.are.exact k (omega arith) in
    let B : List ℕ → List ℕ → ℤ = λ o f. balance_at o (entries_of (length o) lists) (slice_index f) k in
    let same : B p.opening p.front ≡ B q.opening q.front = ap (λ o. B o p.front) opening ∙ ap (λ f. B q.opening f) front in
    same_pos (get_or p.balances k 0) (get_or q.balances k 0) (at_p_k ∙ same ∙ sym at_q_k)) in
    let at : List ℕ → List ℕ → List Place = λ o f. places_of (length o) lists (slice_index f) in
    let places : p.places ≡ q.places =
    same_places (length p.opening) lists (slice_index p.front) p.places at_p.is.placed
    ∙ ap (λ o. at o p.front) opening ∙ ap (at q.opening) front
    ∙ sym (same_places (length q.opening) lists (slice_index q.front) q.places at_q.is.placed) in
    let made : List ℕ → List ℕ → List ℕ → List Place → Standing = λ o f b w. record { opening = o; front = f; balances = b; places = w } in
    ap (λ o. made o p.front p.balances p.places) opening ∙ ap (λ f. made q.opening f p.balances p.places) front
    ∙ ap (λ b. made q.opening q.front b p.places) balances ∙ ap (made q.opening q.front q.balances) places
  where
    same_pos : (m n : ℕ) → pos m ≡ pos n → m ≡ n
    same_pos m n e = omega (arith, ints)

-- a bound on each account's entries
pub few_are_countable : (lists : ℕ → List (List ℕ)) (book : Standing) (most : ℕ) → ((a : ℕ) → a < length book.opening → length (entries_for book lists a) ≤ most) → length book.opening * most < 2 ^ 32 → AreCountable lists book
few_are_countable lists book most few small =
    let n = length book.opening in
    let bounded = sum_below-bounded n (λ a. length (entries_for book lists a)) most few in
    omega arith

-- a bound on each account's values
pub short_are_countable : (lists : ℕ → List (List ℕ)) (book : Standing) (most : ℕ) → ((a : ℕ) → a < length book.opening → length (lists a) ≤ most) → length book.opening * (most * most_entries) < 2 ^ 32 → AreCountable lists book
short_are_countable lists book most short small =
    few_are_countable lists book (most * most_entries) (λ a h. length-entries_of-le (length book.opening) lists a most (short a h)) small

-- within the limits of a group
pub group_is_countable : (lists : ℕ → List (List ℕ)) (book : Standing) → ((a : ℕ) → a < length book.opening → length (lists a) ≤ SEQS) → length book.opening ≤ MOST_MEMBERS → AreCountable lists book
group_is_countable lists book short few = short_are_countable lists book SEQS short (omega arith)
