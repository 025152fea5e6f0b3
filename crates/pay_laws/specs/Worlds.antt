-- The exports of members of worlds, after events that `run_world` answers and after the first of
-- them.
use Rattle.std.specs.Prelude.{◌≡◌, ℕ, List, map, slice_get, Some}
use Rattle.pay_channel.specs.Prefix.{IsPrefix}
use Rattle.pay_link.specs.Genesis.{GenesisFields}
use Rattle.pay_link.specs.Keys.{KeyFields}
use Rattle.pay_member.specs.Member.{MemberFields}
use Rattle.pay_world.specs.declared.event.WorldEvent.{WorldEvent}
use Rattle.pay_world.specs.Liars.{LiarFields}
use Rattle.pay_world.specs.World.{IsWorld, WorldFields, member_in}
use Rattle.pay_world.specs.Run.{IsWorldAfter}
use Rattle.pay_audit.specs.Exporting.{export_of}
use Rattle.pay_audit.specs.Verdict.{verdict_of}
use Rattle.pay_audit.specs.declared.auditing.Verdict.TheVariants.{Clean}

-- a member of the world after the first of these events
pub record IsOfWorld (g : GenesisFields) (keys : List KeyFields) (l : LiarFields)
    (events : List WorldEvent)
    (m : MemberFields) : Type 0 where
  pub until : List WorldEvent
  pub moment : IsPrefix until events
  pub world : WorldFields
  pub is_world : IsWorld world
  pub behind : IsWorldAfter g keys l until world
  pub number : ℕ
  pub member : member_in world number ≡ Some m

-- There is a world after all of the events, so none of them is a forged frame. Whichever members
-- export, even one of them several times, and after however many of the events each does: nothing
-- is wrong.
abbrev pub WorldExportsAreClean : Type 0
WorldExportsAreClean =
    (g : GenesisFields) (keys : List KeyFields) (l : LiarFields) (events : List WorldEvent)
    (last : WorldFields)
    (members : List MemberFields) → IsWorld last → IsWorldAfter g keys l events last
    → ((k : ℕ) (m : MemberFields) → slice_get members k ≡ Some m → IsOfWorld g keys l events m)
    → verdict_of (map export_of members) ≡ Clean
