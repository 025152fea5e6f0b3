-- The exports of a group's correct members, each taken at a moment of its own.
use Rattle.std.specs.Prelude.{◌≡◌, ℕ, Bool, List, map, slice_get, Some}
use Rattle.pay_channel.specs.Prefix.{IsPrefix}
use Rattle.pay_link.specs.Genesis.{GenesisFields, IsGenesis}
use Rattle.pay_member.specs.Events.{events}
use Rattle.pay_member.specs.Member.{MemberFields}
use Rattle.pay_world.specs.Setting.{setting_by, IsCorrect, HasFewFaulty}
use Rattle.pay_world.specs.Actions.{Action, history_by}
use Rattle.pay_world.specs.Genuine.{AreGenuine}
use Rattle.pay_audit.specs.Exporting.{export_of}
use Rattle.pay_audit.specs.Verdict.{verdict_of}
use Rattle.pay_audit.specs.declared.auditing.Verdict.TheVariants.{Clean}

-- A correct member of the group, at a moment of these actions: it has accepted what came to it
-- until then. The queries in its history are no actions, and may be any.
pub record IsCorrectMember (g : GenesisFields) (faulty : ℕ → Bool) (actions : List Action)
    (m : MemberFields) : Type 0 where
  pub genesis : m.genesis ≡ g
  pub correct : IsCorrect (setting_by g faulty) m.keys.own
  pub until : List Action
  pub moment : IsPrefix until actions
  pub took : events m.history ≡ history_by (setting_by g faulty) until m.keys.own

-- Whichever correct members export, even one of them several times, and whenever each does: nothing
-- is wrong.
abbrev pub ExportsAreClean : Type 0
ExportsAreClean =
    (g : GenesisFields) (faulty : ℕ → Bool) (actions : List Action) (members : List MemberFields)
    → IsGenesis g → HasFewFaulty (setting_by g faulty) → AreGenuine (setting_by g faulty) actions
    → ((k : ℕ) (m : MemberFields) → slice_get members k ≡ Some m
    → IsCorrectMember g faulty actions m)
    → verdict_of (map export_of members) ≡ Clean
