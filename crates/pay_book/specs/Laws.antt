-- The laws of settling, over any entries; src/laws.rt states each in words.
use Rattle.std.specs.Prelude.{◌≡◌, ◌⊎◌, ◌↔◌, ℕ, ◌+◌, ◌*◌, ◌^◌, ◌<◌, ◌≤◌, max, pos, ◌≤ℤ◌, false}
use Rattle.std.specs.Prelude.{List, [], ◌∷◌, ◌++◌, length, map, take, slice_index, slice_get, sum}
use Rattle.std.specs.Prelude.{Some, All}
use Rattle.std.specs.List.{flat_map, filter_map, enumerate_from, range_with_len}
use Rattle.pay_frame.specs.declared.limits.TheConstants.{SEQS, MOST_MEMBERS}
use Rattle.pay_channel.specs.Prefix.{IsPrefix}
use Rattle.pay_channel.specs.Source.{GrowsOnly}
use Rattle.pay_book.specs.declared.payment.Entry.{Entry}
use Rattle.pay_book.specs.declared.line.Line.{Line}
use Rattle.pay_book.specs.declared.payment.Payment.{Payment}
use Rattle.pay_book.specs.declared.payment.TheConstants.{MOST_PAYMENTS}
use Rattle.pay_book.specs.declared.payment.Entry.TheVariants.{Void}
use Rattle.pay_book.specs.Notes.{IsNote, note_of, note_value}
use Rattle.pay_book.specs.Payment.{most_entries, payment, entry_of, payment_value, payments_value}
use Rattle.pay_book.specs.Payment.{is_several, count_in, entries_in, entries_of}
use Rattle.pay_book.specs.Places.{place_in, place_of}
use Rattle.pay_book.specs.Statement.{own_line, incoming_line, statement_of}
use Rattle.pay_book.specs.Balance.{balance_at, AreBalances}
use Rattle.pay_book.specs.Front.{MayStep, Reach, IsLargest, largest_front, AllGrow}
use Rattle.pay_book.specs.Book.{Standing, fresh, entries_for, IsBook, IsSettled, AreCountable}
use Rattle.pay_book.specs.Book.{CanSettle}
use Rattle.pay_book.specs.Settled.{settled_front, settled_book, settled_entries, settled_place}
use Rattle.pay_book.specs.Settled.{settled_values}

abbrev pub ReachedFrontsJoin : Type 0
ReachedFrontsJoin =
    (opening : List ℕ) (logs : ℕ → List Entry) (m n : ℕ → ℕ) →
    Reach opening logs m → Reach opening logs n → Reach opening logs (λ a. max (m a) (n a))

abbrev pub StuckIsLargest : Type 0
StuckIsLargest =
    (opening : List ℕ) (logs : ℕ → List Entry) (front : ℕ → ℕ) →
    Reach opening logs front → ((a : ℕ) → MayStep opening logs front a → ⊥)
    → IsLargest opening logs front

abbrev pub LargestIsStuck : Type 0
LargestIsStuck =
    (opening : List ℕ) (logs : ℕ → List Entry) (front : ℕ → ℕ) →
    IsLargest opening logs front → (a : ℕ) → MayStep opening logs front a → ⊥

abbrev pub LargestIsOne : Type 0
LargestIsOne =
    (opening : List ℕ) (logs : ℕ → List Entry) (one other : ℕ → ℕ) →
    IsLargest opening logs one → IsLargest opening logs other → (a : ℕ) → one a ≡ other a

abbrev pub LargestIsComputed : Type 0
LargestIsComputed =
    (opening : List ℕ) (logs : ℕ → List Entry) →
    (length (largest_front opening logs) ≡ length opening)
    × IsLargest opening logs (slice_index (largest_front opening logs))

abbrev pub ReachedIsWithinLists : Type 0
ReachedIsWithinLists =
    (opening : List ℕ) (logs : ℕ → List Entry) (front : ℕ → ℕ) →
    Reach opening logs front → (a : ℕ) → front a ≤ length (logs a)

abbrev pub NoBalanceBelowZero : Type 0
NoBalanceBelowZero =
    (opening : List ℕ) (logs : ℕ → List Entry) (front : ℕ → ℕ) →
    Reach opening logs front → (a : ℕ) → pos 0 ≤ℤ balance_at opening logs front a

abbrev pub BalancesSumToOpening : Type 0
BalancesSumToOpening =
    (opening : List ℕ) (lists : ℕ → List (List ℕ)) (front : ℕ → ℕ) (balances : List ℕ) →
    AreBalances opening (entries_of (length opening) lists) front balances
    → sum balances ≡ sum opening

abbrev pub ReachedStaysReached : Type 0
ReachedStaysReached =
    (opening : List ℕ) (old new : ℕ → List Entry) (front : ℕ → ℕ) →
    AllGrow (length opening) old new → Reach opening old front → Reach opening new front

abbrev pub LargestGrows : Type 0
LargestGrows =
    (opening : List ℕ) (old new : ℕ → List (List ℕ)) →
    AllGrow (length opening) old new →
    (a : ℕ) →
    slice_index (largest_front opening (entries_of (length opening) old)) a
    ≤ slice_index (largest_front opening (entries_of (length opening) new)) a

abbrev pub EqualListsEqualLargest : Type 0
EqualListsEqualLargest =
    (opening : List ℕ) (one other : ℕ → List (List ℕ)) →
    ((a : ℕ) → a < length opening → one a ≡ other a) →
    largest_front opening (entries_of (length opening) one)
    ≡ largest_front opening (entries_of (length opening) other)

abbrev pub EqualListsEqualBalances : Type 0
EqualListsEqualBalances =
    (opening : List ℕ) (one other : ℕ → List (List ℕ)) (front : ℕ → ℕ) →
    ((a : ℕ) → a < length opening → one a ≡ other a) →
    (a : ℕ) → a < length opening →
    balance_at opening (entries_of (length opening) one) front a
    ≡ balance_at opening (entries_of (length opening) other) front a

abbrev pub EqualListsEqualBooks : Type 0
EqualListsEqualBooks =
    (one other : ℕ → List (List ℕ)) (p q : Standing) →
    p.opening ≡ q.opening → ((a : ℕ) → a < length p.opening → one a ≡ other a) →
    IsSettled one p → IsSettled other q → p ≡ q

abbrev pub FreshBookIsSettled : Type 0
FreshBookIsSettled =
    (opening : List ℕ) (lists : ℕ → List (List ℕ)) →
    ((a : ℕ) → a < length opening → length (lists a) ≡ 0) → IsSettled lists (fresh opening)

abbrev pub GrownListCanSettle : Type 0
GrownListCanSettle =
    (old new : ℕ → List (List ℕ)) (book : Standing) (owner : ℕ) →
    IsSettled old book → GrowsOnly old new owner → owner < length book.opening
    → AreCountable new book → CanSettle new book owner

abbrev pub FewEntriesAreCountable : Type 0
FewEntriesAreCountable =
    (lists : ℕ → List (List ℕ)) (book : Standing) (most : ℕ) →
    ((a : ℕ) → a < length book.opening → length (entries_for book lists a) ≤ most) →
    length book.opening * most < 2 ^ 32 → AreCountable lists book

abbrev pub ShortListsAreCountable : Type 0
ShortListsAreCountable =
    (lists : ℕ → List (List ℕ)) (book : Standing) (most : ℕ) →
    ((a : ℕ) → a < length book.opening → length (lists a) ≤ most) →
    length book.opening * (most * most_entries) < 2 ^ 32 → AreCountable lists book

abbrev pub GroupListsAreCountable : Type 0
GroupListsAreCountable =
    (lists : ℕ → List (List ℕ)) (book : Standing) →
    ((a : ℕ) → a < length book.opening → length (lists a) ≤ SEQS) →
    length book.opening ≤ MOST_MEMBERS → AreCountable lists book

abbrev pub ValuesHaveFewEntries : Type 0
ValuesHaveFewEntries =
    (accounts owner : ℕ) (value : List ℕ) → length (entries_in accounts owner value) ≤ most_entries

abbrev pub NotesAreRead : Type 0
NotesAreRead = (value text : List ℕ) → (note_of value ≡ Some text) ↔ IsNote value text

-- A note is one void entry, whoever broadcasts it and however many accounts there are.
abbrev pub NotesAreVoid : Type 0
NotesAreVoid =
    (accounts owner : ℕ) (text : List ℕ)
    → entries_in accounts owner (note_value text) ≡ Void ∷ []

abbrev pub SameListsStaySettled : Type 0
SameListsStaySettled =
    (old new : ℕ → List (List ℕ)) (book : Standing) →
    ((a : ℕ) → a < length book.opening → old a ≡ new a) → IsSettled old book → IsSettled new book

-- ---- the ledger that has settled all it can

abbrev pub SettledBookExists : Type 0
SettledBookExists =
    (opening : List ℕ) (lists : ℕ → List (List ℕ)) → IsSettled lists (settled_book opening lists)

abbrev pub SettledBookIsOne : Type 0
SettledBookIsOne =
    (lists : ℕ → List (List ℕ)) (book : Standing) → IsSettled lists book
    → book ≡ settled_book book.opening lists

abbrev pub SettledIsLargest : Type 0
SettledIsLargest =
    (lists : ℕ → List (List ℕ)) (book : Standing) → IsSettled lists book →
    IsLargest book.opening (entries_for book lists) (slice_index book.front)

abbrev pub BookKeepsTotal : Type 0
BookKeepsTotal =
    (lists : ℕ → List (List ℕ)) (book : Standing) → IsBook lists book
    → sum book.balances ≡ sum book.opening

abbrev pub NobodyOwesOnceSettled : Type 0
NobodyOwesOnceSettled =
    (opening : List ℕ) (lists : ℕ → List (List ℕ)) (a : ℕ) →
    pos 0 ≤ℤ balance_at opening (entries_of (length opening) lists)
    (slice_index (settled_front opening lists)) a

-- ---- lists that grow, and what is settled of them

abbrev pub AllGrowWithOneList : Type 0
AllGrowWithOneList =
    (old new : ℕ → List (List ℕ)) (owner accounts : ℕ) → GrowsOnly old new owner
    → AllGrow accounts old new

abbrev pub BookStays : Type 0
BookStays =
    (old new : ℕ → List (List ℕ)) (book : Standing) →
    AllGrow (length book.opening) old new → IsBook old book → IsBook new book

abbrev pub SettledCountGrows : Type 0
SettledCountGrows =
    (opening : List ℕ) (old new : ℕ → List (List ℕ)) →
    AllGrow (length opening) old new
    → sum (settled_front opening old) ≤ sum (settled_front opening new)

abbrev pub SettledEntriesGrow : Type 0
SettledEntriesGrow =
    (opening : List ℕ) (old new : ℕ → List (List ℕ)) →
    AllGrow (length opening) old new →
    (a : ℕ) → a < length opening
    → IsPrefix (settled_entries opening old a) (settled_entries opening new a)

abbrev pub SettledEntriesCompare : Type 0
SettledEntriesCompare =
    (opening : List ℕ) (one other : ℕ → List (List ℕ)) (a : ℕ) →
    IsPrefix (one a) (other a) ⊎ IsPrefix (other a) (one a) →
    IsPrefix (settled_entries opening one a) (settled_entries opening other a)
    ⊎ IsPrefix (settled_entries opening other a) (settled_entries opening one a)

abbrev pub SettledEntriesWereAsked : Type 0
SettledEntriesWereAsked =
    (opening : List ℕ) (lists : ℕ → List (List ℕ)) (a : ℕ) (asked : List (List ℕ)) →
    IsPrefix (lists a) asked →
    IsPrefix (settled_entries opening lists a) (flat_map (entries_in (length opening) a) asked)

-- ---- values of several payments

-- A value has as many entries as `count_in` says.
abbrev pub ValuesCountTheirEntries : Type 0
ValuesCountTheirEntries =
    (accounts owner : ℕ) (value : List ℕ)
    → length (entries_in accounts owner value) ≡ count_in value

-- None of these accounts' values has the shape of several payments.
abbrev pub AllSingle : ℕ → (ℕ → List (List ℕ)) → Type 0
AllSingle accounts lists =
    (a : ℕ) → a < accounts → All (λ v. is_several v ≡ false) (lists a)

-- One entry for each value, as before values of several payments existed.
abbrev pub former_entries_of : ℕ → (ℕ → List (List ℕ)) → ℕ → List Entry
former_entries_of accounts lists owner = map (entry_of accounts owner) (lists owner)

-- each entry with the place of its value
abbrev pub former_numbered_entries_of : ℕ → (ℕ → List (List ℕ)) → ℕ → List (ℕ × Entry)
former_numbered_entries_of accounts lists owner =
    map (λ v. (v.0, entry_of accounts owner v.1)) (enumerate_from 0 (lists owner))

-- the statement of these entries
abbrev pub former_statement_of : ℕ → (ℕ → List (List ℕ)) → (ℕ → ℕ) → ℕ → List Line
former_statement_of accounts lists front account =
    map (λ e. own_line e.0 e.1)
    (take (front account) (former_numbered_entries_of accounts lists account))
    ++ flat_map
    (λ owner. filter_map (λ e. incoming_line account owner e.0 e.1)
    (take (front owner) (former_numbered_entries_of accounts lists owner)))
    (range_with_len 0 accounts)

-- All is as it was before values of several payments existed.
pub record IsAsFormer (opening : List ℕ) (lists : ℕ → List (List ℕ)) : Type 0 where
  pub entries :
      (a : ℕ) → a < length opening →
      entries_of (length opening) lists a ≡ former_entries_of (length opening) lists a
  pub front :
      settled_front opening lists
      ≡ largest_front opening (former_entries_of (length opening) lists)
  pub balances :
      (front : ℕ → ℕ) (a : ℕ) → a < length opening →
      balance_at opening (entries_of (length opening) lists) front a
      ≡ balance_at opening (former_entries_of (length opening) lists) front a
  pub places :
      (a number : ℕ) → a < length opening → number ≤ length (lists a)
      → place_in count_in (lists a) number ≡ (number, 0)
  pub statement :
      (front : ℕ → ℕ) (a : ℕ) → a < length opening →
      statement_of (length opening) lists front a
      ≡ former_statement_of (length opening) lists front a

abbrev pub SingleEntries : Type 0
SingleEntries =
    (opening : List ℕ) (lists : ℕ → List (List ℕ)) →
    AllSingle (length opening) lists → IsAsFormer opening lists

-- The account's place says which of its values are wholly settled, with all their entries before
-- the front, and how many entries of the next value are.
pub record TellsWhole (lists : ℕ → List (List ℕ)) (book : Standing) (a : ℕ) : Type 0 where
  pub within : (place_of book.places a).0 ≤ length (lists a)
  pub part :
      (value : List ℕ) → slice_get (lists a) (place_of book.places a).0 ≡ Some value
      → (place_of book.places a).1 < count_in value
  pub adds_up :
      length (flat_map (entries_in (length book.opening) a)
      (take (place_of book.places a).0 (lists a)))
      + (place_of book.places a).1
      ≡ slice_index book.front a
  pub whole :
      (s : ℕ) → s < length (lists a) →
      (s < (place_of book.places a).0)
      ↔ (length (flat_map (entries_in (length book.opening) a) (take (s + 1) (lists a)))
      ≤ slice_index book.front a)

abbrev pub WhollySettled : Type 0
WhollySettled =
    (lists : ℕ → List (List ℕ)) (book : Standing) (a : ℕ) →
    IsBook lists book → a < length book.opening → TellsWhole lists book a

-- ---- values that are wholly settled

abbrev pub SettledBookTellsPlaces : Type 0
SettledBookTellsPlaces =
    (opening : List ℕ) (lists : ℕ → List (List ℕ)) (a : ℕ) → a < length opening
    → place_of (settled_book opening lists).places a ≡ settled_place opening lists a

abbrev pub SettledPlacesGrow : Type 0
SettledPlacesGrow =
    (opening : List ℕ) (old new : ℕ → List (List ℕ)) →
    AllGrow (length opening) old new →
    (a : ℕ) → (settled_place opening old a).0 ≤ (settled_place opening new a).0

abbrev pub SettledValuesBeginEntries : Type 0
SettledValuesBeginEntries =
    (opening : List ℕ) (lists : ℕ → List (List ℕ)) (a : ℕ) →
    IsPrefix (flat_map (entries_in (length opening) a) (settled_values opening lists a))
    (settled_entries opening lists a)

-- ---- values that were encoded

-- a payment's numbers are those that its bytes hold
abbrev pub FitsBytes : Payment → Type 0
FitsBytes p = (p.payee < 2 ^ 16) × (p.amount < 2 ^ 64)

-- the meaning of a payment in the list of this owner
abbrev pub entry_for : ℕ → ℕ → Payment → Entry
entry_for accounts owner p = payment accounts owner p.payee p.amount

-- A value of one payment is that payment.
abbrev pub OneIsEncoded : Type 0
OneIsEncoded =
    (accounts owner : ℕ) (p : Payment) → FitsBytes p →
    entries_in accounts owner (payment_value p.payee p.amount) ≡ entry_for accounts owner p ∷ []

-- A value of 1 to 32 payments is these payments, in their order.
abbrev pub SeveralAreEncoded : Type 0
SeveralAreEncoded =
    (accounts owner : ℕ) (payments : List Payment) → All FitsBytes payments →
    0 < length payments → length payments ≤ MOST_PAYMENTS →
    entries_in accounts owner (payments_value payments) ≡ map (entry_for accounts owner) payments

-- Different payments have different values, and no value of one payment is a value of several.
pub record AreApart : Type 0 where
  pub one :
      (p q : Payment) → FitsBytes p → FitsBytes q →
      payment_value p.payee p.amount ≡ payment_value q.payee q.amount → p ≡ q
  pub several :
      (ps qs : List Payment) → All FitsBytes ps → All FitsBytes qs →
      payments_value ps ≡ payments_value qs → ps ≡ qs
  pub versions :
      (p : Payment) (qs : List Payment) → payment_value p.payee p.amount ≡ payments_value qs → ⊥
