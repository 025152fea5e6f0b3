-- Lists of accounts with a next entry that may now be covered.
use Rattle.std.specs.Prelude.{◌≡◌, ◌≢◌, ℕ, ◌<◌, List, All, AllPairs, Contains}
use Rattle.pay_book.specs.declared.payment.Entry.{Entry}
use Rattle.pay_book.specs.declared.payment.Entry.TheVariants.{Pay, Void}

-- The accounts on the list exist, and each is on it once.
pub record IsWaitingList (accounts : ℕ) (waiting : List ℕ) : Type 0 where
  pub there : All (λ a. a < accounts) waiting
  pub once : AllPairs (λ a b. a ≢ b) waiting

-- The accounts that were on the list still are.
abbrev pub KeepsWaiting : List ℕ → List ℕ → Type 0
KeepsWaiting old new = (a : ℕ) → Contains old a → Contains new a

-- The account that an entry pays.
abbrev pub IsPaid : ℕ → Entry → Type 0
IsPaid a (Pay payee amount) = a ≡ payee
IsPaid a Void = ⊥
