-- The book that has settled all it can, and what is settled as lists grow.
use Rattle.std.proofs.Common.{◌≡◌, ◌⊎◌, ℕ, ◌+◌, ◌-◌, ◌<◌, ◌≤◌, pos, ◌≤ℤ◌, List, ◌++◌, length, take, drop, sum, slice_index, refl, ap, ◌∙◌, sym, subst, arith, inl, inr, append_assoc}
use Rattle.std.specs.List.{flat_map}
use Rattle.std.proofs.lemmas.Int.{ints}
use Rattle.std.proofs.lemmas.Bool.{cases_lt}
use Rattle.std.proofs.lemmas.List.{take-take, take-append-drop}
use Rattle.std.proofs.lemmas.List.FromFn.{length-map-range_with_len, get_or-map-range_with_len}
use Rattle.pay_channel.specs.Prefix.{IsPrefix}
use Rattle.pay_book.specs.declared.payment.Entry.{Entry}
use Rattle.pay_book.specs.Payment.{entries_in, entries_of}
use Rattle.pay_book.specs.Balance.{paid_in, paid_out, balance_at, AreBalances}
use Rattle.pay_book.specs.Front.{Reach, largest_front, AllGrow}
use Rattle.pay_book.specs.Book.{Standing, IsBook, IsSettled}
use Rattle.pay_book.specs.Settled.{balances_of, settled_front, settled_book, settled_entries}
use Rattle.pay_book.proofs.Sums.{sum_below-le}
use Rattle.pay_book.proofs.Conserving.{paid_out-le, sum-places, sum-balances, balance_at-nonnegative}
use Rattle.pay_book.proofs.Reaching.{Reach-within}
use Rattle.pay_book.proofs.Growing.{take-grown, largest_grows}
use Rattle.pay_book.proofs.Computing.{largest_front_is_largest}
use Rattle.pay_book.proofs.Entries.{entries_of-prefix, entries_of-grow, entries_of-within}
use Rattle.pay_book.proofs.Placing.{places_of-are}
use Rattle.pay_book.proofs.Settling.{same_books}

-- at a reached front the computed balances are the balances there
balances_of-are : (opening : List ℕ) (logs : ℕ → List Entry) (front : ℕ → ℕ) → Reach opening logs front → AreBalances opening logs front (balances_of opening logs front)
unfolding balances_of
balances_of-are opening logs front reached =
    let n = length opening in
    let balance : ℕ → ℕ = λ a. (slice_index opening a + paid_in n logs front a) - paid_out logs front a in
    record {
      one_for_each = length-map-range_with_len balance 0 n;
      exact = λ a h.
          (let there = get_or-map-range_with_len balance 0 n a a 0 h (omega arith) in
          let enough = paid_out-le opening logs reached a in
          omega (arith, ints));
    }

pub settled_book_is_settled : (opening : List ℕ) (lists : ℕ → List (List ℕ)) → IsSettled lists (settled_book opening lists)
settled_book_is_settled opening lists =
    let logs = entries_of (length opening) lists in
    let computed = largest_front_is_largest opening logs in
    record {
      is = record {
        reached = computed.1.reached;
        one_for_each = computed.0;
        are = balances_of-are opening logs (slice_index (largest_front opening logs)) computed.1.reached;
        placed = places_of-are (length opening) lists (slice_index (largest_front opening logs));
      };
      largest = refl;
    }

pub settled_is_settled_book : (lists : ℕ → List (List ℕ)) (book : Standing) → IsSettled lists book → book ≡ settled_book book.opening lists
settled_is_settled_book lists book settled =
    same_books lists book (settled_book book.opening lists) refl settled (settled_book_is_settled book.opening lists)

pub book_total : (lists : ℕ → List (List ℕ)) (book : Standing) → IsBook lists book → sum book.balances ≡ sum book.opening
book_total lists book is =
    let n = length book.opening in
    sum-balances book.opening (entries_of n lists) (slice_index book.front) book.balances (entries_of-within n lists) is.are

pub nobody_owes : (opening : List ℕ) (lists : ℕ → List (List ℕ)) (a : ℕ) → pos 0 ≤ℤ balance_at opening (entries_of (length opening) lists) (slice_index (settled_front opening lists)) a
nobody_owes opening lists a =
    let logs = entries_of (length opening) lists in
    balance_at-nonnegative opening logs (slice_index (largest_front opening logs)) (largest_front_is_largest opening logs).1.reached a

-- ---- growth

pub settled_front-within : (opening : List ℕ) (lists : ℕ → List (List ℕ)) (a : ℕ) → slice_index (settled_front opening lists) a ≤ length (entries_of (length opening) lists a)
settled_front-within opening lists a =
    let logs = entries_of (length opening) lists in
    Reach-within opening logs (largest_front_is_largest opening logs).1.reached a

pub settled_front-grows : (opening : List ℕ) (old new : ℕ → List (List ℕ)) → AllGrow (length opening) old new → (a : ℕ) → slice_index (settled_front opening old) a ≤ slice_index (settled_front opening new) a
settled_front-grows opening old new grow =
    let n = length opening in
    let before = entries_of n old in
    let after = entries_of n new in
    largest_grows opening before after (slice_index (largest_front opening before)) (slice_index (largest_front opening after)) (entries_of-grow n old new grow) (largest_front_is_largest opening before).1 (largest_front_is_largest opening after).1

pub settled_count_grows : (opening : List ℕ) (old new : ℕ → List (List ℕ)) → AllGrow (length opening) old new → sum (settled_front opening old) ≤ sum (settled_front opening new)
settled_count_grows opening old new grow =
    let n = length opening in
    let each = sum_below-le n (slice_index (settled_front opening old)) (slice_index (settled_front opening new)) (λ a _. settled_front-grows opening old new grow a) in
    let before = sum-places (settled_front opening old) n (largest_front_is_largest opening (entries_of n old)).0 in
    let after = sum-places (settled_front opening new) n (largest_front_is_largest opening (entries_of n new)).0 in
    omega arith

-- ---- prefixes

pub take-prefix : {X : Type 0} (m n : ℕ) (xs : List X) → m ≤ n → IsPrefix (take m xs) (take n xs)
take-prefix m n xs h =
    record {
      rest = drop m (take n xs);
      is = sym (take-append-drop m (take n xs)) ∙ ap (λ ys. ys ++ drop m (take n xs)) (take-take m n xs h);
    }

-- a beginning of the shorter list is one of the longer list
take-prefix_grown : {X : Type 0} (shorter longer : List X) (m n : ℕ) → IsPrefix shorter longer → m ≤ length shorter → m ≤ n → IsPrefix (take m shorter) (take n longer)
take-prefix_grown {X} shorter longer m n prefix within h =
    let P : List X → Type 0 = λ xs. IsPrefix xs (take n longer) in
    subst P (take-grown shorter longer m prefix within) (take-prefix m n longer h)

take-prefix_back : {X : Type 0} (shorter longer : List X) (m n : ℕ) → IsPrefix shorter longer → m ≤ length shorter → n ≤ m → IsPrefix (take n longer) (take m shorter)
take-prefix_back {X} shorter longer m n prefix within h =
    let P : List X → Type 0 = λ xs. IsPrefix (take n longer) xs in
    subst P (take-grown shorter longer m prefix within) (take-prefix n m longer h)

pub settled_entries_grow : (opening : List ℕ) (old new : ℕ → List (List ℕ)) → AllGrow (length opening) old new → (a : ℕ) → a < length opening → IsPrefix (settled_entries opening old a) (settled_entries opening new a)
settled_entries_grow opening old new grow a h =
    let n = length opening in
    take-prefix_grown (entries_of n old a) (entries_of n new a) (slice_index (settled_front opening old) a) (slice_index (settled_front opening new) a)
    (entries_of-prefix n old new a (grow a h)) (settled_front-within opening old a) (settled_front-grows opening old new grow a)

pub settled_entries_compare : (opening : List ℕ) (one other : ℕ → List (List ℕ)) (a : ℕ) → IsPrefix (one a) (other a) ⊎ IsPrefix (other a) (one a) → IsPrefix (settled_entries opening one a) (settled_entries opening other a) ⊎ IsPrefix (settled_entries opening other a) (settled_entries opening one a)
settled_entries_compare opening one other a (inl prefix) =
    let n = length opening in
    let m = slice_index (settled_front opening one) a in
    let k = slice_index (settled_front opening other) a in
    let longer = entries_of-prefix n one other a prefix in
    let within = settled_front-within opening one a in
    elim (cases_lt m k) [
      | inl less ↦ inl (take-prefix_grown (entries_of n one a) (entries_of n other a) m k longer within (omega arith))
      | inr more ↦ inr (take-prefix_back (entries_of n one a) (entries_of n other a) m k longer within (omega arith))
    ]
settled_entries_compare opening one other a (inr prefix) =
    let n = length opening in
    let m = slice_index (settled_front opening other) a in
    let k = slice_index (settled_front opening one) a in
    let longer = entries_of-prefix n other one a prefix in
    let within = settled_front-within opening other a in
    elim (cases_lt m k) [
      | inl less ↦ inr (take-prefix_grown (entries_of n other a) (entries_of n one a) m k longer within (omega arith))
      | inr more ↦ inl (take-prefix_back (entries_of n other a) (entries_of n one a) m k longer within (omega arith))
    ]

pub settled_entries_were_asked : (opening : List ℕ) (lists : ℕ → List (List ℕ)) (a : ℕ) (asked : List (List ℕ)) → IsPrefix (lists a) asked → IsPrefix (settled_entries opening lists a) (flat_map (entries_in (length opening) a) asked)
unfolding entries_of
settled_entries_were_asked opening lists a asked prefix =
    let n = length opening in
    let listed = entries_of n lists a in
    let place = slice_index (settled_front opening lists) a in
    let of_asked = entries_of-prefix n lists (λ _. asked) a prefix in
    record {
      rest = drop place listed ++ of_asked.rest;
      is =
          of_asked.is
          ∙ ap (λ xs. xs ++ of_asked.rest) (sym (take-append-drop place listed))
          ∙ append_assoc (take place listed) (drop place listed) of_asked.rest;
    }
