-- The group ledger of exports of members, some of them faulty, at moments of some actions.
use Rattle.std.specs.Prelude.{◌≡◌, ℕ, ◌<◌, Bool, false, List}
use Rattle.pay_channel.specs.Prefix.{IsPrefix}
use Rattle.pay_link.specs.Genesis.{GenesisFields, IsGenesis}
use Rattle.pay_book.specs.Settled.{settled_entries}
use Rattle.pay_member.specs.Member.{MemberFields}
use Rattle.pay_world.specs.Convergence.{AllTaken}
use Rattle.pay_world.specs.Actions.{Action, history_by}
use Rattle.pay_world.specs.Genuine.{AreGenuine}
use Rattle.pay_world.specs.Headline.{settled_by}
use Rattle.pay_world.specs.Setting.{HasFewFaulty, IsCorrect, setting_by}
use Rattle.pay_audit.specs.Export.{ExportFields, IsExport, lists_of}
use Rattle.pay_audit.specs.Exporting.{export_of}
use Rattle.pay_audit.specs.Said.{Each}
use Rattle.pay_group.specs.Book.{IsGroupBook}
use Rattle.pay_laws.specs.Moments.{IsCorrectMember}

-- An export of a correct member is what it shows at a moment of these actions. Nothing is known
-- about those of faulty members.
abbrev pub AreGroupsExports : GenesisFields → (ℕ → Bool) → List Action → List ExportFields → Type 0
AreGroupsExports g faulty actions exports =
    Each (λ e. faulty e.member ≡ false → (m : MemberFields) × IsCorrectMember g faulty actions m
    × (e ≡ export_of m)) exports

-- Exports of a group with few faulty members, and the group ledger that they have.
pub record HasBook (g : GenesisFields) (faulty : ℕ → Bool) (actions : List Action)
    (exports : List ExportFields) (b : ExportFields) : Type 0 where
  pub genesis : IsGenesis g
  pub few : HasFewFaulty (setting_by g faulty)
  pub are_exports : Each IsExport exports
  pub are : AreGroupsExports g faulty actions exports
  pub book : IsGroupBook exports b
  pub of_group : b.genesis ≡ g

-- a correct member with this list as a prefix of its list of this account, at a moment of the
-- actions
pub record IsListOfCorrect (g : GenesisFields) (faulty : ℕ → Bool) (actions : List Action)
    (account : ℕ) (list : List (List ℕ)) : Type 0 where
  pub member : MemberFields
  pub is : IsCorrectMember g faulty actions member
  pub begins : IsPrefix list (lists_of (export_of member) account)

-- each list of the group ledger is a prefix of a correct member's, whatever the actions
abbrev pub BookIsOfCorrectMembers : Type 0
BookIsOfCorrectMembers =
    (g : GenesisFields) (faulty : ℕ → Bool) (actions : List Action) (exports : List ExportFields)
    (b : ExportFields)
    → HasBook g faulty actions exports b → (account : ℕ) → account < g.members
    → IsListOfCorrect g faulty actions account (lists_of b account)

-- Every correct member has settled what the group ledger has, after everything was accepted, for
-- actions without a forged frame.
abbrev pub BookIsSettledByAll : Type 0
BookIsSettledByAll =
    (g : GenesisFields) (faulty : ℕ → Bool) (actions : List Action) (exports : List ExportFields)
    (b : ExportFields)
    (j : ℕ) → HasBook g faulty actions exports b → AreGenuine (setting_by g faulty) actions
    → AllTaken (setting_by g faulty) (history_by (setting_by g faulty) actions)
    → IsCorrect (setting_by g faulty) j → (account : ℕ) → account < g.members
    → IsPrefix (settled_entries g.opening (lists_of b) account)
    (settled_by (setting_by g faulty) g.opening actions j account)
