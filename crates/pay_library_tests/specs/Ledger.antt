-- A book that is settled over its own lists.
use Rattle.std.specs.Prelude.{◌≡◌, ℕ, ◌≤◌, List, length}
use Rattle.pay_frame.specs.declared.limits.TheConstants.{MOST_MEMBERS}
use Rattle.pay_book.specs.Book.{Standing, IsSettled}

pub record IsPlainLedger (accounts owners : ℕ) (lists : ℕ → List (List ℕ)) (book : Standing)
    : Type 0 where
  pub count : accounts ≡ length book.opening
  pub few : accounts ≤ MOST_MEMBERS
  pub owners_are : owners ≡ accounts
  pub settled : IsSettled lists book
