-- What a ledger shows, and when that is right.
use Rattle.std.specs.Prelude.{◌≡◌, ◌≢◌, ℕ, ◌+◌, ◌<◌, ◌^◌, List, length, replicate, slice_index}
use Rattle.std.specs.Prelude.{slice_get, slice_set, sum, Some}
use Rattle.pay_book.specs.declared.payment.Entry.{Entry}
use Rattle.pay_book.specs.Payment.{entries_of}
use Rattle.pay_book.specs.Places.{Place, ArePlaces}
use Rattle.pay_book.specs.Balance.{AreBalances}
use Rattle.pay_book.specs.Front.{MayStep, Reach, entry_count, largest_front}

-- The opening balances of a ledger, its front and its balances, each account's at its place.
-- `places` has the place of each account's front in its list of values.
pub record Standing : Type 0 where
  pub opening : List ℕ
  pub front : List ℕ
  pub balances : List ℕ
  pub places : List Place

abbrev pub standing_of_parts : List ℕ → List ℕ → List ℕ → List Place → Standing
standing_of_parts opening front balances places =
    record { opening = opening; front = front; balances = balances; places = places }

-- Each account has its places, and no count of accounts or sum of balances exceeds the ledger's
-- numbers.
pub record IsSoundBook (book : Standing) : Type 0 where
  pub front_for_each : length book.front ≡ length book.opening
  pub balance_for_each : length book.balances ≡ length book.opening
  pub place_for_each : length book.places ≡ length book.opening
  pub accounts : length book.opening < 2 ^ 16
  pub total : sum book.opening < 2 ^ 64

-- a ledger without settled entries
abbrev pub fresh : List ℕ → Standing
fresh opening =
    record {
      opening = opening;
      front = replicate (length opening) 0;
      balances = opening;
      places = replicate (length opening) (0, 0);
    }

-- the owners' lists as this ledger reads them
abbrev pub entries_for : Standing → (ℕ → List (List ℕ)) → ℕ → List Entry
entries_for book lists = entries_of (length book.opening) lists

-- The account's next entry may settle in this ledger.
abbrev pub MaySettle : (ℕ → List (List ℕ)) → Standing → ℕ → Type 0
MaySettle lists book account =
    MayStep book.opening (entries_for book lists) (slice_index book.front) account

-- No account's next entry may settle.
abbrev pub IsStuck : (ℕ → List (List ℕ)) → Standing → Type 0
IsStuck lists book = (a : ℕ) → MaySettle lists book a → ⊥

-- The ledger stands at a front that steps reach, with the balances and places there.
-- page: `IsBook`, `IsSettled`, `CanSettle`: a ledger is at a reached front, with the balances
--   there; that front is the largest; only one owner may have a step, and there are fewer than 2^32
--   entries
pub record IsBook (lists : ℕ → List (List ℕ)) (book : Standing) : Type 0 where
  pub reached : Reach book.opening (entries_for book lists) (slice_index book.front)
  pub one_for_each : length book.front ≡ length book.opening
  pub are : AreBalances book.opening (entries_for book lists) (slice_index book.front) book.balances
  pub placed : ArePlaces (length book.opening) lists (slice_index book.front) book.places

-- The ledger stands at the largest front.
pub record IsSettled (lists : ℕ → List (List ℕ)) (book : Standing) : Type 0 where
  pub is : IsBook lists book
  pub largest : book.front ≡ largest_front book.opening (entries_for book lists)

-- The lists have few enough entries for a count of 32 bits.
abbrev pub AreCountable : (ℕ → List (List ℕ)) → Standing → Type 0
AreCountable lists book = entry_count (length book.opening) (entries_for book lists) < 2 ^ 32

-- Only this owner's account may have something to settle.
pub record CanSettle (lists : ℕ → List (List ℕ)) (book : Standing) (owner : ℕ) : Type 0 where
  pub countable : AreCountable lists book
  pub is : IsBook lists book
  pub account : owner < length book.opening
  pub only_owner : (a : ℕ) → a ≢ owner → MaySettle lists book a → ⊥

-- An entry of this account settled.
pub record IsStep (lists : ℕ → List (List ℕ)) (old : Standing) (account : ℕ) (entry : Entry)
    (new : Standing) : Type 0 where
  pub same_opening : new.opening ≡ old.opening
  pub allowed : MaySettle lists old account
  pub next : slice_get (entries_for old lists account) (slice_index old.front account) ≡ Some entry
  pub further : new.front ≡ slice_set old.front account (slice_index old.front account + 1)
