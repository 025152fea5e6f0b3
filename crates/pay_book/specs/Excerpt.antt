-- Consecutive entries of an account: those that settled from a number on, and those that wait.
use Rattle.std.specs.Prelude.{ℕ, List, length, map, take, drop, slice_get, slice_index}
use Rattle.std.specs.Option.{option_and_then}
use Rattle.pay_book.specs.declared.payment.Entry.{Entry}
use Rattle.pay_book.specs.declared.excerpts.ShownEntry.{ShownEntry}
use Rattle.pay_book.specs.declared.excerpts.TheConstants.{MOST_SHOWN}
use Rattle.pay_book.specs.Book.{Standing}
use Rattle.pay_book.specs.Notes.{note_of}
use Rattle.pay_book.specs.Statement.{numbered_entries_of}

-- The number of the first entry, the entries, and the account's balance.
pub record ExcerptFields : Type 0 where
  pub first : ℕ
  pub entries : List ShownEntry
  pub balance : ℕ

-- an entry with the number of its value among these, and the text that the value contains
abbrev pub shown_among : List (List ℕ) → ℕ × Entry → ShownEntry
shown_among values e =
    record { seq = e.0; entry = e.1; note = option_and_then note_of (slice_get values e.0) }

-- an account's settled entries from a number on: at most as many as an excerpt shows
-- page: `settled_from`, `waiting_of`: of an account, its settled entries from a number on, and the
--   entries of its values after the front: at most 1,000, each with its value's seq and note
unfoldable pub settled_from : Standing → (ℕ → List (List ℕ)) → ℕ → ℕ → List ShownEntry
settled_from book lists account from =
    map (shown_among (lists account))
    (take MOST_SHOWN
    (drop from
    (take (slice_index book.front account)
    (numbered_entries_of (length book.opening) lists account))))

abbrev pub settled_excerpt : Standing → (ℕ → List (List ℕ)) → ℕ → ℕ → ExcerptFields
settled_excerpt book lists account from =
    record {
      first = from;
      entries = settled_from book lists account from;
      balance = slice_index book.balances account;
    }

-- the entries that aren't settled: the first of them, at most as many as an excerpt shows
unfoldable pub waiting_of : Standing → (ℕ → List (List ℕ)) → ℕ → List ShownEntry
waiting_of book lists account =
    map (shown_among (lists account))
    (take MOST_SHOWN
    (drop (slice_index book.front account)
    (numbered_entries_of (length book.opening) lists account)))

abbrev pub waiting_excerpt : Standing → (ℕ → List (List ℕ)) → ℕ → ExcerptFields
waiting_excerpt book lists account =
    record {
      first = slice_index book.front account;
      entries = waiting_of book lists account;
      balance = slice_index book.balances account;
    }
