-- A world: the members of a group in one process, and the events of each.
use Rattle.std.specs.Prelude.{◌≡◌, ℕ, List, [], length, slice_get, map, Option, Some, None, is_some}
use Rattle.std.specs.Prelude.{option_map, option_and_then, if◌then◌else◌}
use Rattle.std.specs.Option.{option_map_or}
use Rattle.pay_channel.specs.History.{Event}
use Rattle.pay_link.specs.Genesis.{GenesisFields, IsGenesis}
use Rattle.pay_link.specs.Keys.{KeyFields, IsKeysOf}
use Rattle.pay_member.specs.Events.{events}
use Rattle.pay_member.specs.Member.{MemberFields}
use Rattle.pay_world.specs.Setting.{Setting, is_correct}
use Rattle.pay_world.specs.Stands.{Stands}
use Rattle.pay_world.specs.Liars.{LiarFields, AreLiars, AreLiarsOf, is_listed, setting_of}

pub record WorldFields : Type 0 where
  pub genesis : GenesisFields
  pub liars : LiarFields
  -- each correct member at its place, and nothing at a faulty member's
  pub members : List (Option MemberFields)
  -- the count of answered events
  pub answered : ℕ

-- the members that are faulty
abbrev pub setting_in : WorldFields → Setting
setting_in w = setting_of w.liars

-- ---- its members

-- the member of a number, if it is one and correct
abbrev pub member_at : List (Option MemberFields) → ℕ → Option MemberFields
member_at members i = option_and_then (λ m. m) (slice_get members i)

-- the events of a member, or none if there is no such member
abbrev pub events_at : List (Option MemberFields) → ℕ → List Event
events_at members i = option_map_or (λ m. events m.history) (member_at members i) []

abbrev pub member_in : WorldFields → ℕ → Option MemberFields
member_in w i = member_at w.members i

abbrev pub history_in : WorldFields → ℕ → List Event
history_in w i = events_at w.members i

-- the keys of the correct members
abbrev pub keys_in : WorldFields → ℕ → Option KeyFields
keys_in w i = option_map (λ m. m.keys) (member_in w i)

-- ---- what holds of every world

-- member i of this genesis, with its own keys
pub record IsMemberAt (g : GenesisFields) (i : ℕ) (m : MemberFields) : Type 0 where
  pub genesis : m.genesis ≡ g
  pub own : m.keys.own ≡ i
  pub keys : IsKeysOf g m.keys

-- The correct members are there, each at its place, and `Stands` holds between their histories.
pub record IsWorld (w : WorldFields) : Type 0 where
  pub genesis : IsGenesis w.genesis
  pub liars : AreLiars w.liars
  pub group : AreLiarsOf w.genesis w.liars
  pub places : length w.members ≡ w.genesis.members
  pub there : (i : ℕ) → is_some (member_in w i) ≡ is_correct (setting_in w) i
  pub each : (i : ℕ) (m : MemberFields) → member_in w i ≡ Some m → IsMemberAt w.genesis i m
  pub stands : Stands (setting_in w) (history_in w)

-- ---- a new world

-- Keys of all members of this genesis, each member's at its place.
pub record AreKeysOf (g : GenesisFields) (keys : List KeyFields) : Type 0 where
  pub one_for_each : length keys ≡ g.members
  pub own : (i : ℕ) (k : KeyFields) → slice_get keys i ≡ Some k → k.own ≡ i
  pub of : (i : ℕ) (k : KeyFields) → slice_get keys i ≡ Some k → IsKeysOf g k

-- what stands at the place of the member with these keys before it has an event
abbrev pub fresh_place : GenesisFields → LiarFields → KeyFields → Option MemberFields
fresh_place g l k =
    if is_listed l.liars k.own then None else Some (record { genesis = g; keys = k; history = [] })

abbrev pub fresh_world : GenesisFields → List KeyFields → LiarFields → WorldFields
fresh_world g keys l =
    record { genesis = g; liars = l; members = map (fresh_place g l) keys; answered = 0 }
