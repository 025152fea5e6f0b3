-- Statements about what one step of a ledger does, and when no step is left. Each is proved as a
-- public law; src/laws.rt states each in words.
use Rattle.std.specs.Prelude.{◌≡◌, ◌≢◌, ℕ, ◌+◌, ◌≤◌, List, length, sum}
use Rattle.pay_book.specs.declared.payment.Entry.{Entry}
use Rattle.pay_book.specs.Balance.{amount_to, PayWithin}
use Rattle.pay_book.specs.Front.{entry_count}
use Rattle.pay_book.specs.Book.{Standing, entries_for, MaySettle, IsStuck, IsBook, IsSettled}
use Rattle.pay_book.specs.Book.{IsStep}

abbrev pub StepSettlesOne : Type 0
StepSettlesOne =
    (lists : ℕ → List (List ℕ)) (old new : Standing) (account : ℕ) (entry : Entry) →
    IsBook lists old → IsStep lists old account entry new → sum new.front ≡ sum old.front + 1

abbrev pub StepPaysWithin : Type 0
StepPaysWithin =
    (lists : ℕ → List (List ℕ)) (old new : Standing) (account : ℕ) (entry : Entry) →
    IsStep lists old account entry new → PayWithin (length new.opening) entry

abbrev pub OthersMayNoMore : Type 0
OthersMayNoMore =
    (lists : ℕ → List (List ℕ)) (old new : Standing) (account : ℕ) (entry : Entry) (other : ℕ) →
    IsBook lists old → IsStep lists old account entry new →
    other ≢ account → amount_to other entry ≡ 0 →
    MaySettle lists new other → MaySettle lists old other

abbrev pub StuckBookIsSettled : Type 0
StuckBookIsSettled =
    (lists : ℕ → List (List ℕ)) (book : Standing) →
    IsBook lists book → IsStuck lists book → IsSettled lists book

abbrev pub SettledAreListed : Type 0
SettledAreListed =
    (lists : ℕ → List (List ℕ)) (book : Standing) →
    IsBook lists book → sum book.front ≤ entry_count (length book.opening) (entries_for book lists)
