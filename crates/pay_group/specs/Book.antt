-- The group ledger of members' exports: what more than f of them list, settled. If at most f
-- members are faulty, one of more than f different members is correct.
use Rattle.std.specs.Prelude.{◌≡◌, ℕ, ◌+◌, ◌<◌, ◌≤◌, ◌==◌, List, [], ◌∷◌, length, map, slice_get}
use Rattle.std.specs.Prelude.{Option, Some, None, if◌then◌else◌}
use Rattle.std.specs.Option.{option_or}
use Rattle.pay_link.specs.Genesis.{GenesisFields}
use Rattle.pay_group.specs.Backing.{IsGroupList, IsSplit}
use Rattle.pay_audit.specs.Auditor.{first_genesis}
use Rattle.pay_audit.specs.ByLists.{HasOwnBook}
use Rattle.pay_audit.specs.Export.{ExportFields, IsExport, lists_of}
use Rattle.pay_audit.specs.Verdict.{first_from, other_genesis}
use Rattle.pay_audit.specs.declared.auditing.Verdict.{Verdict}
use Rattle.pay_audit.specs.declared.auditing.Verdict.TheVariants as verdict
use Rattle.pay_group.specs.declared.texts.GroupFault.{GroupFault}
use Rattle.pay_group.specs.declared.texts.GroupFault.TheVariants as group
use Rattle.pay_group.specs.declared.booking.BookFault.{BookFault}
use Rattle.pay_group.specs.declared.booking.BookFault.TheVariants.{Memory, OtherGenesis, Twice, Few}
use Rattle.pay_group.specs.declared.booking.BookFault.TheVariants.{Split}

-- what the exports list for an account
abbrev pub listed_by : List ExportFields → ℕ → List (List (List ℕ))
listed_by exports account = map (λ e. lists_of e account) exports

-- each of the exports belongs to a group of `members` members
abbrev pub AreOfSize : ℕ → List ExportFields → Type 0
AreOfSize members exports =
    (x : ℕ) (e : ExportFields) → slice_get exports x ≡ Some e → e.genesis.members ≡ members

-- ---- exports of one member

-- export y, if it belongs to the member of export x too
abbrev pub twice_at : ℕ → ℕ → ℕ → ExportFields → Option BookFault
twice_at x member y e = if e.member == member then Some (Twice x y) else None

-- each export against those after it
abbrev pub twice_from : ℕ → List ExportFields → Option BookFault
twice_from x [] = None
twice_from x (e ∷ es) =
    option_or (first_from (twice_at x e.member) (x + 1) es) (twice_from (x + 1) es)

-- ---- a group ledger

-- exports of one genesis and of different members, more of them than there may be faulty members
pub record AreOfGroup (g : GenesisFields) (exports : List ExportFields) : Type 0 where
  pub first : first_genesis exports ≡ Some g
  pub geneses : other_genesis exports ≡ None
  pub members : twice_from 0 exports ≡ None
  pub many : g.faults < length exports

-- The group ledger, as an export of the first of these members. For each account it has the longest
-- list that more than f of the exports begin with, and all that these lists allow is settled.
-- page: `IsGroupBook`, `HasNoBook`: the group ledger of exports, as an export, or the first fault;
--   what more than f of these list follows Malkhi and Reiter's rule for values that f + 1 servers
--   vouch for (Byzantine Quorum Systems, 1998, section 4)
pub record IsGroupBook (exports : List ExportFields) (b : ExportFields) : Type 0 where
  pub exports_are : AreOfGroup b.genesis exports
  pub is_export : IsExport b
  pub member : (e : ExportFields) → slice_get exports 0 ≡ Some e → b.member ≡ e.member
  pub lists :
      (account : ℕ) → account < b.genesis.members
      → IsGroupList b.genesis.faults (listed_by exports account) (lists_of b account)
  pub book : HasOwnBook b

-- ---- no group ledger

-- no more exports than there may be faulty members, or none at all
pub record AreFew (exports : List ExportFields) (count : ℕ) : Type 0 where
  pub geneses : other_genesis exports ≡ None
  pub members : twice_from 0 exports ≡ None
  pub are : count ≡ length exports
  pub few : (g : GenesisFields) → first_genesis exports ≡ Some g → count ≤ g.faults

-- Two values under one number of an account are each listed by more than f exports, after one
-- prefix: more than f members are faulty. Each account before it has a list.
pub record IsFirstSplit (exports : List ExportFields) (account seq : ℕ) : Type 0 where
  pub genesis : GenesisFields
  pub exports_are : AreOfGroup genesis exports
  pub known : account < genesis.members
  pub split : IsSplit genesis.faults (listed_by exports account) seq
  pub before :
      (a : ℕ) → a < account
      → (list : List (List ℕ)) × IsGroupList genesis.faults (listed_by exports a) list

-- why there is no group ledger: the first kind of fault that occurs, and within it the least case
-- in the order of its words
abbrev pub HasNoBook : List ExportFields → BookFault → Type 0
HasNoBook exports Memory = Unit {0}
HasNoBook exports (OtherGenesis x) = other_genesis exports ≡ Some (verdict.OtherGenesis x)
HasNoBook exports (Twice x y) =
    (other_genesis exports ≡ None) × (twice_from 0 exports ≡ Some (Twice x y))
HasNoBook exports (Few count) = AreFew exports count
HasNoBook exports (Split account seq) = IsFirstSplit exports account seq

-- the fault that a verdict or a group's fault becomes
abbrev pub other_by : Verdict → BookFault
other_by (verdict.OtherGenesis x) = OtherGenesis x
other_by _ = Memory

abbrev pub split_by : GroupFault → BookFault
split_by group.Memory = Memory
split_by (group.Split owner seq) = Split owner seq
