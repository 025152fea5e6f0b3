-- What the plain book's loops keep.
use Rattle.std.proofs.Common.{◌≡◌, ℕ, ◌+◌, ◌<◌, List, sum}
use Rattle.pay_book.specs.Book.{Standing, MaySettle, IsBook}

-- No account before this one may settle anything, and nothing was settled.
pub record IsPassedOver (lists : ℕ → List (List ℕ)) (start now : Standing) (account : ℕ) : Type 0 where
  pub same : now ≡ start
  pub tried : (a : ℕ) → a < account → MaySettle lists start a → ⊥

-- So many entries are settled since the start.
pub record IsSettling (lists : ℕ → List (List ℕ)) (start now : Standing) (settled : ℕ) : Type 0 where
  pub same_opening : now.opening ≡ start.opening
  pub is : IsBook lists now
  pub count : sum start.front + settled ≡ sum now.front
