-- What an auditor knows about the exports that it has accepted one by one.
use Rattle.std.specs.Prelude.{◌≡◌, ℕ, List, [], ◌∷◌, length, Option, Some, None}
use Rattle.std.specs.Option.{option_or}
use Rattle.pay_link.specs.Genesis.{GenesisFields}
use Rattle.pay_audit.specs.Compared.{HasCompared}
use Rattle.pay_audit.specs.Export.{ExportFields}
use Rattle.pay_audit.specs.Verdict.{first_from, other_genesis, other_genesis_at, verdict_of}
use Rattle.pay_audit.specs.Verdict.{wrong_balance_at, wrong_front_at}
use Rattle.pay_audit.specs.declared.auditor.Auditor.{Auditor}
use Rattle.pay_audit.specs.declared.comparison.Comparison.{Comparison}
use Rattle.pay_audit.specs.declared.auditing.Verdict.{Verdict}
use Rattle.pay_audit.specs.declared.findings.Wrong.{Wrong}

-- how many exports it has accepted
abbrev pub taken_by : Auditor → ℕ
taken_by a = a.taken

-- ---- what is wrong with an export

-- the genesis of the first export
abbrev pub first_genesis : List ExportFields → Option GenesisFields
first_genesis [] = None
first_genesis (e ∷ es) = Some e.genesis

-- this export, if its genesis isn't that of the first
abbrev pub other_genesis_than : Option GenesisFields → ℕ → ExportFields → Option Verdict
other_genesis_than None x e = None
other_genesis_than (Some g) x e = other_genesis_at g x e

-- The first case of each kind. After a case that comes first in a verdict's order the others aren't
-- looked for.
pub record HasFound (exports : List ExportFields) (w : Wrong) : Type 0 where
  pub genesis : w.genesis ≡ other_genesis exports
  pub front : w.genesis ≡ None → w.front ≡ first_from wrong_front_at 0 exports
  pub balance :
      w.genesis ≡ None → w.front ≡ None → w.balance ≡ first_from wrong_balance_at 0 exports

-- nothing is found
pub record IsNothing (w : Wrong) : Type 0 where
  pub genesis : w.genesis ≡ None
  pub front : w.front ≡ None
  pub balance : w.balance ≡ None

-- ---- all that it keeps

abbrev pub HasComparedBy : List ExportFields → Comparison → Type 0
HasComparedBy exports c = HasCompared exports c.longest.items c.lengths.items c.differences.items

-- these are all exports that it has accepted, in their order
pub record HasTakenExports (exports : List ExportFields) (a : Auditor) : Type 0 where
  pub taken : a.taken ≡ length exports
  pub genesis : a.genesis ≡ first_genesis exports
  pub wrong : HasFound exports a.wrong
  pub lists : IsNothing a.wrong → HasComparedBy exports a.comparison

-- what is wrong after it has accepted this export too
pub record IsWrongWith (a : Auditor) (e : ExportFields) (w : Wrong) : Type 0 where
  pub genesis : w.genesis ≡ option_or a.wrong.genesis (other_genesis_than a.genesis a.taken e)
  pub front : w.genesis ≡ None → w.front ≡ option_or a.wrong.front (wrong_front_at a.taken e)
  pub balance :
      w.genesis ≡ None → w.front ≡ None
      → w.balance ≡ option_or a.wrong.balance (wrong_balance_at a.taken e)

-- no two lists of exports that an auditor can have accepted have different verdicts
abbrev pub VerdictOfTakenIsOne : Type 0
VerdictOfTakenIsOne =
    (auditor : Auditor) (one other : List ExportFields) → HasTakenExports one auditor
    → HasTakenExports other auditor
    → verdict_of one ≡ verdict_of other
