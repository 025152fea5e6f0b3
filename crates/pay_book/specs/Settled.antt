-- What a ledger shows after it has settled all it can, as a function of the lists.
use Rattle.std.specs.Prelude.{ℕ, ◌+◌, ◌-◌, List, length, map, take, slice_index}
use Rattle.std.specs.List.{range_with_len}
use Rattle.pay_book.specs.declared.payment.Entry.{Entry}
use Rattle.pay_book.specs.Payment.{count_in, entries_of}
use Rattle.pay_book.specs.Places.{Place, place_in, places_of}
use Rattle.pay_book.specs.Balance.{paid_in, paid_out}
use Rattle.pay_book.specs.Front.{largest_front}
use Rattle.pay_book.specs.Book.{Standing}

-- The balances at a front, each account's at its place, if none is below zero.
unfoldable pub balances_of : List ℕ → (ℕ → List Entry) → (ℕ → ℕ) → List ℕ
balances_of opening logs front =
    map (λ a. (slice_index opening a + paid_in (length opening) logs front a)
    - paid_out logs front a)
    (range_with_len 0 (length opening))

-- The largest front of the accounts' lists.
abbrev pub settled_front : List ℕ → (ℕ → List (List ℕ)) → List ℕ
settled_front opening lists = largest_front opening (entries_of (length opening) lists)

-- The ledger at that front.
abbrev pub settled_book : List ℕ → (ℕ → List (List ℕ)) → Standing
settled_book opening lists =
    let front = settled_front opening lists in
    record {
      opening = opening;
      front = front;
      balances = balances_of opening (entries_of (length opening) lists) (slice_index front);
      places = places_of (length opening) lists (slice_index front);
    }

-- An account's settled entries: those of its list before that front.
-- page: `settled_entries`, `settled_values`, `statement_of`: an account's entries before the
--   largest front; the values wholly before it; its settled entries in order, then the settled
--   payments to it, by owner
abbrev pub settled_entries : List ℕ → (ℕ → List (List ℕ)) → ℕ → List Entry
settled_entries opening lists account =
    take (slice_index (settled_front opening lists) account)
    (entries_of (length opening) lists account)

-- the place of that front among the account's values
abbrev pub settled_place : List ℕ → (ℕ → List (List ℕ)) → ℕ → Place
settled_place opening lists account =
    place_in count_in (lists account) (slice_index (settled_front opening lists) account)

-- An account's values that are wholly settled.
abbrev pub settled_values : List ℕ → (ℕ → List (List ℕ)) → ℕ → List (List ℕ)
settled_values opening lists account =
    take (settled_place opening lists account).0 (lists account)
