-- Balances at a front. A front gives each account a place in its list of entries: the entries
-- before it are settled.
use Rattle.std.specs.Prelude.{◌≡◌, ℕ, zero, suc, ◌+◌, ◌<◌, ℤ, pos, ◌-ℤ◌, List, length, take}
use Rattle.std.specs.Prelude.{slice_index, sum_by, All, ◌==◌, if◌then◌else◌}
use Rattle.pay_book.specs.declared.payment.Entry.{Entry}
use Rattle.pay_book.specs.declared.payment.Entry.TheVariants.{Pay, Void}

-- what an entry takes from its owner's account
abbrev pub amount_of : Entry → ℕ
amount_of (Pay payee amount) = amount
amount_of Void = 0

-- what an entry adds to an account
abbrev pub amount_to : ℕ → Entry → ℕ
amount_to account (Pay payee amount) = if payee == account then amount else 0
amount_to account Void = 0

-- f 0 + f 1 + .. over the first n accounts
abbrev pub sum_below : ℕ → (ℕ → ℕ) → ℕ
sum_below zero f = 0
sum_below (suc n) f = sum_below n f + f n

-- what all settled entries added to an account
abbrev pub paid_in : ℕ → (ℕ → List Entry) → (ℕ → ℕ) → ℕ → ℕ
paid_in accounts logs front account =
    sum_below accounts (λ owner. sum_by (amount_to account) (take (front owner) (logs owner)))

-- what an account's own settled entries took from it
abbrev pub paid_out : (ℕ → List Entry) → (ℕ → ℕ) → ℕ → ℕ
paid_out logs front account = sum_by amount_of (take (front account) (logs account))

-- An account's balance: what it opened with and what came in, less what went out. This definition
-- doesn't keep the balance from being negative.
-- page: `balance_at`: at a front, the opening balance and what came in, less what went out; a
--   signed number, so that "never negative" says something
abbrev pub balance_at : List ℕ → (ℕ → List Entry) → (ℕ → ℕ) → ℕ → ℤ
balance_at opening logs front account =
    pos (slice_index opening account + paid_in (length opening) logs front account)
    -ℤ pos (paid_out logs front account)

-- A list of numbers has each account's balance at its place.
pub record AreBalances (opening : List ℕ) (logs : ℕ → List Entry) (front : ℕ → ℕ)
    (balances : List ℕ) : Type 0 where
  pub one_for_each : length balances ≡ length opening
  pub exact :
      (a : ℕ) → a < length opening → pos (slice_index balances a) ≡ balance_at opening logs front a

-- Every payment of these accounts' lists goes to one of them.
abbrev pub PayWithin : ℕ → Entry → Type 0
PayWithin accounts (Pay payee amount) = payee < accounts
PayWithin accounts Void = Unit {0}

abbrev pub AllPayWithin : ℕ → (ℕ → List Entry) → Type 0
AllPayWithin accounts logs = (owner : ℕ) → owner < accounts → All (PayWithin accounts) (logs owner)

-- Each account has its old balance, less what this entry takes from its owner's account, and plus
-- what the entry adds.
abbrev pub MovesAmount : Entry → ℕ → List ℕ → List ℕ → Type 0
MovesAmount entry owner old new =
    (a : ℕ)
    → slice_index new a + (if a == owner then amount_of entry else 0)
    ≡ slice_index old a + amount_to a entry
