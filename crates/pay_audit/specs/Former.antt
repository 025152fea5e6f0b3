-- The verdict of exports in the form that it had when each value was one payment.
use Rattle.std.specs.Prelude.{◌≡◌, ℕ, All, List, length, slice_index, Option, option_map, unwrap_or}
use Rattle.std.specs.Option.{option_or}
use Rattle.pay_book.specs.Front.{largest_front}
use Rattle.pay_book.specs.Laws.{AllSingle, former_entries_of}
use Rattle.pay_book.specs.Settled.{balances_of}
use Rattle.pay_book.specs.declared.payment.Entry.{Entry}
use Rattle.pay_audit.specs.Export.{ExportFields, lists_of}
use Rattle.pay_audit.specs.Verdict.{first_from, fork_from, if_other, other_genesis, verdict_of}
use Rattle.pay_audit.specs.declared.auditing.Verdict.{Verdict}
use Rattle.pay_audit.specs.declared.auditing.Verdict.TheVariants.{Clean, WrongFront, WrongBalance}

-- one entry for each value of an export's own lists
abbrev pub former_logs_of : ExportFields → ℕ → List Entry
former_logs_of e = former_entries_of (length e.genesis.opening) (lists_of e)

-- the front and the balances that these lists allow
abbrev pub former_front_of : ExportFields → List ℕ
former_front_of e = largest_front e.genesis.opening (former_logs_of e)

abbrev pub former_balances_of : ExportFields → List ℕ
former_balances_of e =
    balances_of e.genesis.opening (former_logs_of e) (slice_index (former_front_of e))

abbrev pub former_wrong_front_at : ℕ → ExportFields → Option Verdict
former_wrong_front_at x e =
    option_map (WrongFront x) (first_from (if_other (former_front_of e)) 0 e.front)

abbrev pub former_wrong_balance_at : ℕ → ExportFields → Option Verdict
former_wrong_balance_at x e =
    option_map (WrongBalance x) (first_from (if_other (former_balances_of e)) 0 e.balances)

abbrev pub former_wrong_book : List ExportFields → Option Verdict
former_wrong_book exports =
    option_or (first_from former_wrong_front_at 0 exports)
    (first_from former_wrong_balance_at 0 exports)

abbrev pub former_verdict_of : List ExportFields → Verdict
former_verdict_of exports =
    unwrap_or (option_or (other_genesis exports)
    (option_or (former_wrong_book exports) (fork_from 0 exports))) Clean

-- no value that an export lists has the shape of several payments
abbrev pub HasSingles : ExportFields → Type 0
HasSingles e = AllSingle (length e.genesis.opening) (lists_of e)

abbrev pub VerdictIsAsFormer : Type 0
VerdictIsAsFormer =
    (exports : List ExportFields) → All HasSingles exports
    → verdict_of exports ≡ former_verdict_of exports
