-- What a verdict's parts say about an export, in terms of the ledger: which fronts steps reach, and
-- which balances are there. Each is proved as a public law.
use Rattle.std.specs.Prelude.{◌≡◌, ◌↔◌, ℕ, List, length, slice_get, slice_index, Some, None}
use Rattle.pay_book.specs.Payment.{entries_of}
use Rattle.pay_book.specs.Balance.{AreBalances}
use Rattle.pay_book.specs.Front.{IsLargest}
use Rattle.pay_book.specs.declared.payment.Entry.{Entry}
use Rattle.pay_audit.specs.Export.{ExportFields, IsExport, lists_of}
use Rattle.pay_audit.specs.Verdict.{fork_between, wrong_balance_of, wrong_front_of}

-- the accounts' entries in an export's own lists
abbrev pub logs_of : ExportFields → ℕ → List Entry
logs_of e = entries_of (length e.genesis.opening) (lists_of e)

-- the export's front is the largest that steps reach over its own lists
abbrev pub HasRightFront : ExportFields → Type 0
HasRightFront e = IsLargest e.genesis.opening (logs_of e) (slice_index e.front)

-- the export's balances are those at its own front
abbrev pub HasRightBalances : ExportFields → Type 0
HasRightBalances e = AreBalances e.genesis.opening (logs_of e) (slice_index e.front) e.balances

-- no account is named exactly if the front is right
abbrev pub FrontIsJudged : Type 0
FrontIsJudged = (e : ExportFields) → IsExport e → (wrong_front_of e ≡ None) ↔ HasRightFront e

-- after a right front, no account is named exactly if the balances are right
abbrev pub BalancesAreJudged : Type 0
BalancesAreJudged =
    (e : ExportFields) → IsExport e → wrong_front_of e ≡ None
    → (wrong_balance_of e ≡ None) ↔ HasRightBalances e

-- no place that both lists have has two values
abbrev pub Agreeing : List (List ℕ) → List (List ℕ) → Type 0
Agreeing one other =
    (s : ℕ) (v w : List ℕ) → slice_get one s ≡ Some v → slice_get other s ≡ Some w → v ≡ w

abbrev pub AgreeWith : ExportFields → ExportFields → Type 0
AgreeWith one other = (a : ℕ) → Agreeing (lists_of one a) (lists_of other a)

-- two exports have no fork exactly if all their lists agree
abbrev pub ForkIsJudged : Type 0
ForkIsJudged =
    (x y : ℕ) (one other : ExportFields) → (fork_between x one y other ≡ None) ↔ AgreeWith one other
