-- An export made of lists alone, and what a group can continue with: the balances of an export as
-- opening amounts.
use Rattle.std.specs.Prelude.{◌≡◌}
use Rattle.pay_link.specs.Genesis.{GenesisFields}
use Rattle.pay_audit.specs.Export.{ExportFields}
use Rattle.pay_audit.specs.Verdict.{book_of}

-- its front and its balances are those of the ledger of its lists
pub record HasOwnBook (e : ExportFields) : Type 0 where
  pub front : e.front ≡ (book_of e).front
  pub balances : e.balances ≡ (book_of e).balances

-- equally many members and faults, and each account opens with its balance
abbrev pub next_genesis : ExportFields → GenesisFields
next_genesis e =
    record { members = e.genesis.members; faults = e.genesis.faults; opening = e.balances }
