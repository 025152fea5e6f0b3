-- The exports of a group with correct members that start again, each with a prefix of its history.
use Rattle.std.specs.Prelude.{◌≡◌, ℕ, Bool, List, map, slice_get, Some}
use Rattle.pay_channel.specs.Prefix.{IsPrefix}
use Rattle.pay_link.specs.Genesis.{GenesisFields, IsGenesis}
use Rattle.pay_member.specs.Events.{events}
use Rattle.pay_member.specs.Member.{MemberFields}
use Rattle.pay_world.specs.Setting.{setting_by, IsCorrect, HasFewFaulty}
use Rattle.pay_laws.specs.Restarts.{Step, AreFair, history_by_steps}
use Rattle.pay_audit.specs.Exporting.{export_of}
use Rattle.pay_audit.specs.Verdict.{verdict_of}
use Rattle.pay_audit.specs.declared.auditing.Verdict.TheVariants.{Clean}

-- A correct member of the group, with what it accepted until some moment of these steps and never
-- lost.
pub record IsLastingMember (g : GenesisFields) (faulty : ℕ → Bool) (steps : List Step)
    (m : MemberFields) : Type 0 where
  pub genesis : m.genesis ≡ g
  pub correct : IsCorrect (setting_by g faulty) m.keys.own
  pub took :
      IsPrefix (events m.history) (history_by_steps (setting_by g faulty) steps m.keys.own)

-- Whichever correct members export, however often they start again, each with all that it sent to
-- correct members: nothing is wrong.
abbrev pub ExportsStayClean : Type 0
ExportsStayClean =
    (g : GenesisFields) (faulty : ℕ → Bool) (steps : List Step) (members : List MemberFields)
    → IsGenesis g → HasFewFaulty (setting_by g faulty) → AreFair (setting_by g faulty) steps
    → ((k : ℕ) (m : MemberFields) → slice_get members k ≡ Some m
    → IsLastingMember g faulty steps m)
    → verdict_of (map export_of members) ≡ Clean
