-- Statements about group ledgers. Each is proved as a public law.
use Rattle.std.specs.Prelude.{◌≡◌, ℕ, ◌<◌, ◌≤◌, pos, Bool, false, List, slice_get}
use Rattle.std.specs.Prelude.{slice_index, sum, Some, None}
use Rattle.std.specs.List.{count_by, range_with_len}
use Rattle.pay_channel.specs.Prefix.{IsPrefix}
use Rattle.pay_link.specs.Genesis.{IsGenesis}
use Rattle.pay_book.specs.Balance.{balance_at}
use Rattle.pay_audit.specs.ByLists.{next_genesis}
use Rattle.pay_audit.specs.Export.{ExportFields, IsExport, lists_of}
use Rattle.pay_audit.specs.Laws.{HasRightFront, logs_of}
use Rattle.pay_audit.specs.Said.{Each}
use Rattle.pay_group.specs.Book.{HasNoBook, IsGroupBook, twice_from}
use Rattle.pay_group.specs.declared.booking.BookFault.{BookFault}
use Rattle.pay_group.specs.declared.booking.BookFault.TheVariants.{Memory}

-- exports have no two group ledgers
abbrev pub BookIsOne : Type 0
BookIsOne =
    (exports : List ExportFields) (b c : ExportFields) → IsGroupBook exports b
    → IsGroupBook exports c → b ≡ c

-- exports with a fault have no group ledger
abbrev pub NoBookOfAFault : Type 0
NoBookOfAFault =
    (exports : List ExportFields) (b : ExportFields) (fault : BookFault) → IsGroupBook exports b
    → HasNoBook exports fault → fault ≡ Memory

-- exports of different members: any set of members has no more exports than members
abbrev pub MembersVouchOnce : Type 0
MembersVouchOnce =
    (exports : List ExportFields) (members : ℕ) (set : ℕ → Bool) → twice_from 0 exports ≡ None
    → Each (λ e. e.member < members) exports
    → count_by (λ e. set e.member) exports ≤ count_by set (range_with_len 0 members)

-- an export, among these, of a member that isn't faulty, with this list as a prefix of its list of
-- an account
pub record IsVouchedFor (exports : List ExportFields) (faulty : ℕ → Bool) (account : ℕ)
    (list : List (List ℕ)) : Type 0 where
  pub place : ℕ
  pub export : ExportFields
  pub at : slice_get exports place ≡ Some export
  pub correct : faulty export.member ≡ false
  pub begins : IsPrefix list (lists_of export account)

-- If at most f members are faulty, each list of the group ledger is a prefix of a correct member's
-- list.
abbrev pub BookIsVouchedFor : Type 0
BookIsVouchedFor =
    (exports : List ExportFields) (b : ExportFields) (faulty : ℕ → Bool)
    → Each IsExport exports → IsGroupBook exports b
    → count_by faulty (range_with_len 0 b.genesis.members) ≤ b.genesis.faults
    → (account : ℕ) → account < b.genesis.members
    → IsVouchedFor exports faulty account (lists_of b account)

-- The group ledger is settled as far as its lists allow.
abbrev pub GroupBookIsSettled : Type 0
GroupBookIsSettled =
    (exports : List ExportFields) (b : ExportFields) → IsGroupBook exports b → HasRightFront b

-- The next genesis is a genesis. Each account opens with its balance at the ledger's front, so this
-- balance isn't below zero. All accounts together open with what they opened with before.
pub record IsNextGenesis (b : ExportFields) : Type 0 where
  pub genesis : IsGenesis (next_genesis b)
  pub total : sum (next_genesis b).opening ≡ sum b.genesis.opening
  pub openings :
      (account : ℕ) → account < b.genesis.members
      → pos (slice_index (next_genesis b).opening account)
      ≡ balance_at b.genesis.opening (logs_of b) (slice_index b.front) account

abbrev pub NextGenesisIsOne : Type 0
NextGenesisIsOne =
    (exports : List ExportFields) (b : ExportFields) → IsGroupBook exports b → IsNextGenesis b
