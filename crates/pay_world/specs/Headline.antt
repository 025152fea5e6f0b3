-- What correct members settle, and how it agrees.
use Rattle.std.specs.Prelude.{◌≡◌, ◌⊎◌, ℕ, ◌<◌, pos, ◌≤ℤ◌, List, length, take, slice_index, sum}
use Rattle.std.specs.List.{flat_map}
use Rattle.pay_channel.specs.Prefix.{IsPrefix}
use Rattle.pay_channel.specs.History.{list_of}
use Rattle.pay_channel.specs.Asked.{asked_values}
use Rattle.pay_book.specs.declared.payment.Entry.{Entry}
use Rattle.pay_book.specs.Payment.{entries_in, entries_of}
use Rattle.pay_book.specs.Balance.{balance_at, AreBalances}
use Rattle.pay_book.specs.Front.{IsLargest}
use Rattle.pay_book.specs.Book.{Standing}
use Rattle.pay_book.specs.Settled.{settled_book, settled_values}
use Rattle.pay_world.specs.Setting.{Setting, group_at, IsCorrect}
use Rattle.pay_world.specs.Actions.{Action, history_by}

-- ---- of one member, by these actions

-- each account's list, as member i delivered it
abbrev pub lists_by : Setting → List Action → ℕ → ℕ → List (List ℕ)
lists_by w actions i = list_of (group_at w i) (history_by w actions i)

-- the ledger of member i: all is settled that its lists allow
abbrev pub book_by : Setting → List ℕ → List Action → ℕ → Standing
book_by w opening actions i = settled_book opening (lists_by w actions i)

-- the entries of account a that member i has settled: the first of its list, as many as the front
-- of its ledger says
abbrev pub settled_by : Setting → List ℕ → List Action → ℕ → ℕ → List Entry
settled_by w opening actions i a =
    take (slice_index (book_by w opening actions i).front a)
    (entries_of (length opening) (lists_by w actions i) a)

-- the values of account a that member i has wholly settled, void or not
abbrev pub settled_values_by : Setting → List ℕ → List Action → ℕ → ℕ → List (List ℕ)
settled_values_by w opening actions i a = settled_values opening (lists_by w actions i) a

-- the entries of all values that member a submitted
abbrev pub asked_by : Setting → List ℕ → List Action → ℕ → List Entry
asked_by w opening actions a =
    flat_map (entries_in (length opening) a) (asked_values (history_by w actions a))

-- The ledger stands at the largest front that the lists allow, and shows the balances there. No
-- balance is below zero, and all balances together are what all accounts opened with.
pub record IsBookOf (opening : List ℕ) (lists : ℕ → List (List ℕ)) (book : Standing) : Type 0 where
  pub largest : IsLargest opening (entries_of (length opening) lists) (slice_index book.front)
  pub balances :
      AreBalances opening (entries_of (length opening) lists) (slice_index book.front) book.balances
  pub nobody_owes :
      (a : ℕ) → pos 0
      ≤ℤ balance_at opening (entries_of (length opening) lists) (slice_index book.front) a
  pub total : sum book.balances ≡ sum opening

-- ---- between correct members

-- Two correct members may have come to any prefixes of these actions. Of what they have settled of
-- an account, one list is a prefix of the other. What a member settled stays settled, and of a
-- correct owner it is what the owner submitted, in that order. Each ledger is what the member's
-- lists make it, and members with equal lists have equal ledgers.
pub record Headline (w : Setting) (opening : List ℕ) (actions : List Action) : Type 0 where
  pub agree :
      (one other : List Action) (i j a : ℕ) → IsPrefix one actions → IsPrefix other actions
      → IsCorrect w i → IsCorrect w j
      → IsPrefix (settled_by w opening one i a) (settled_by w opening other j a)
      ⊎ IsPrefix (settled_by w opening other j a) (settled_by w opening one i a)
  pub for_good :
      (one other : List Action) (i a : ℕ) → IsPrefix one other → IsPrefix other actions
      → IsCorrect w i → a < length opening
      → IsPrefix (settled_by w opening one i a) (settled_by w opening other i a)
  pub asked :
      (one : List Action) (i a : ℕ) → IsPrefix one actions → IsCorrect w i → IsCorrect w a
      → IsPrefix (settled_by w opening one i a) (asked_by w opening one a)
  pub book :
      (one : List Action) (i : ℕ) → IsPrefix one actions → IsCorrect w i
      → IsBookOf opening (lists_by w one i) (book_by w opening one i)
  pub equal :
      (one other : List Action) (i j : ℕ) → IsPrefix one actions → IsPrefix other actions
      → IsCorrect w i → IsCorrect w j
      → ((a : ℕ) → a < length opening → lists_by w one i a ≡ lists_by w other j a)
      → book_by w opening one i ≡ book_by w opening other j
