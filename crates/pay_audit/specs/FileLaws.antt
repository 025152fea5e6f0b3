-- Statements about when a file is no export. Each is proved as a public law.
use Rattle.std.specs.Prelude.{◌≡◌, ◌↔◌, ℕ, ◌<◌, List, length, Some, None, Err}
use Rattle.pay_link.specs.Json.{Data, value_in}
use Rattle.pay_link.specs.Genesis.{IsGenesis}
use Rattle.pay_audit.specs.declared.exported.ExportFault.TheVariants.{BadJson, BadShape, BadGenesis}
use Rattle.pay_audit.specs.Export.{ExportFields, export_in, parts_in}

-- The member of an object's parts is one of the members that the object counts. Each of these
-- members has a list, a front and a balance.
pub record HasSizes (e : ExportFields) : Type 0 where
  pub member : e.member < e.genesis.members
  pub lists : length e.lists ≡ e.genesis.members
  pub front : length e.front ≡ e.genesis.members
  pub balances : length e.balances ≡ e.genesis.members

-- the file is no JSON
abbrev pub BadJsonCause : Type 0
BadJsonCause = (bytes : List ℕ) → (export_in bytes ≡ Err BadJson) ↔ (value_in bytes ≡ None)

-- the file is JSON, and its value lacks parts of an export, or has parts of other sizes
abbrev pub BadShapeCause : Type 0
BadShapeCause =
    (bytes : List ℕ) → (export_in bytes ≡ Err BadShape)
    ↔ ((d : Data) × (value_in bytes ≡ Some d)
    × ((e : ExportFields) → parts_in d ≡ Some e → ¬ (HasSizes e)))

-- the file has these parts, and they make no genesis
abbrev pub BadGenesisCause : Type 0
BadGenesisCause =
    (bytes : List ℕ) → (export_in bytes ≡ Err BadGenesis)
    ↔ ((d : Data) × (e : ExportFields) × (value_in bytes ≡ Some d) × (parts_in d ≡ Some e)
    × HasSizes e
    × (¬ (IsGenesis e.genesis)))
