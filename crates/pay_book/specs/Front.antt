-- The fronts that settling reaches: one account's next entry settles at a time, when its balance
-- covers it.
use Rattle.std.specs.Prelude.{◌≡◌, ◌≢◌, ℕ, zero, suc, ◌+◌, ◌<◌, ◌≤◌, ℤ, pos, ◌≤ℤ◌, Bool, true}
use Rattle.std.specs.Prelude.{false, nat_le, List, length, replicate, slice_index, slice_get}
use Rattle.std.specs.Prelude.{slice_set, Option, Some, None}
use Rattle.std.specs.List.{find, range_with_len}
use Rattle.pay_channel.specs.Prefix.{IsPrefix}
use Rattle.pay_book.specs.declared.payment.Entry.{Entry}
use Rattle.pay_book.specs.declared.payment.Entry.TheVariants.{Pay, Void}
use Rattle.pay_book.specs.Balance.{sum_below, paid_in, paid_out, balance_at}

-- There is a next entry, and it moves nothing or no more than the balance.
abbrev pub Covers : ℤ → Option Entry → Type 0
Covers balance None = ⊥
Covers balance (Some Void) = Unit {0}
Covers balance (Some (Pay payee amount)) = pos amount ≤ℤ balance

-- The account's next entry may settle.
-- page: `MayStep`, `Reach`: an account's next entry may settle; the fronts that such steps lead to
--   from the one at which nothing is settled
abbrev pub MayStep : List ℕ → (ℕ → List Entry) → (ℕ → ℕ) → ℕ → Type 0
MayStep opening logs front a =
    (a < length opening) × Covers (balance_at opening logs front a) (slice_get (logs a) (front a))

-- The next front has this account one place further, and every other account unchanged.
pub record IsOneFurther (front : ℕ → ℕ) (a : ℕ) (next : ℕ → ℕ) : Type 0 where
  pub moved : next a ≡ front a + 1
  pub others : (b : ℕ) → b ≢ a → next b ≡ front b

-- The fronts that allowed steps lead to, from the front at which nothing is settled.
pub data Reach (opening : List ℕ) (logs : ℕ → List Entry) : (ℕ → ℕ) → Type 0 where
  Start : {front : ℕ → ℕ} → ((a : ℕ) → front a ≡ 0) → Reach opening logs front
  Step : {front next : ℕ → ℕ} → (a : ℕ) → Reach opening logs front → MayStep opening logs front a
      → IsOneFurther front a next → Reach opening logs next

-- The reached front that no reached front exceeds anywhere.
-- page: `IsLargest`, `largest_front`: the reached front that no reached front exceeds anywhere; a
--   plain computation of it ([law](theorem.md#the-argument) `largest_is_computed`)
pub record IsLargest (opening : List ℕ) (logs : ℕ → List Entry) (front : ℕ → ℕ) : Type 0 where
  pub reached : Reach opening logs front
  pub greatest : (other : ℕ → ℕ) → Reach opening logs other → (a : ℕ) → other a ≤ front a

-- The largest front, computed: as many turns as there are entries, each a step of the first account
-- that has one.

-- the balance of an account with this income and these payments covers the next entry
abbrev pub covers : ℕ → ℕ → Option Entry → Bool
covers income paid None = false
covers income paid (Some Void) = true
covers income paid (Some (Pay payee amount)) = nat_le (paid + amount) income

abbrev pub may_step : List ℕ → (ℕ → List Entry) → List ℕ → ℕ → Bool
may_step opening logs front a =
    covers (slice_index opening a + paid_in (length opening) logs (slice_index front) a)
    (paid_out logs (slice_index front) a) (slice_get (logs a) (slice_index front a))

abbrev pub front_after_step : List ℕ → Option ℕ → List ℕ
front_after_step front None = front
front_after_step front (Some a) = slice_set front a (slice_index front a + 1)

unfoldable pub front_after_turns : List ℕ → (ℕ → List Entry) → ℕ → List ℕ → List ℕ
front_after_turns opening logs zero front = front
front_after_turns opening logs (suc turns) front =
    front_after_turns opening logs turns (front_after_step front
    (find (may_step opening logs front) (range_with_len 0 (length opening))))

-- the count of entries in all lists
abbrev pub entry_count : ℕ → (ℕ → List Entry) → ℕ
entry_count accounts logs = sum_below accounts (λ a. length (logs a))

unfoldable pub largest_front : List ℕ → (ℕ → List Entry) → List ℕ
largest_front opening logs =
    front_after_turns opening logs (entry_count (length opening) logs)
    (replicate (length opening) 0)

-- Each of these accounts' new lists begins with its old one.
abbrev pub AllGrow : {X : Type 0} → ℕ → (ℕ → List X) → (ℕ → List X) → Type 0
AllGrow accounts old new = (a : ℕ) → a < accounts → IsPrefix (old a) (new a)
