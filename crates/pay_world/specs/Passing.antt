-- Frames that a correct member of a world sent, when they are passed on to another member.
use Rattle.std.specs.Prelude.{◌≡◌, ◌≢◌, ℕ, List, [], slice_get, Some}
use Rattle.std.specs.Option.{option_map_or}
use Rattle.pay_frame.specs.Frame.{BodyFields, frame_bytes}
use Rattle.pay_channel.specs.History.{out}
use Rattle.pay_link.specs.Keys.{key_for}
use Rattle.pay_link.specs.Sealing.{sealed_frame}
use Rattle.pay_member.specs.Events.{events}
use Rattle.pay_member.specs.Group.{group_in}
use Rattle.pay_member.specs.Member.{MemberFields}
use Rattle.pay_world.specs.declared.event.WorldEvent.{WorldEvent}
use Rattle.pay_world.specs.declared.event.WorldEvent.TheVariants.{Bring}
use Rattle.pay_world.specs.World.{WorldFields, member_in}

-- the bytes of the frame at a place of all that a member sent, encoded for a peer; no bytes if it
-- sent none there
abbrev pub frame_by : MemberFields → ℕ → ℕ → List ℕ
frame_by m to number =
    option_map_or (λ body. frame_bytes (sealed_frame m.keys to number body))
    (slice_get (out (group_in m.genesis m.keys.own) (events m.history)) number) []

-- the bytes of the frame at a place of all that a correct member of a world sent
unfoldable pub frame_of : WorldFields → ℕ → ℕ → ℕ → List ℕ
frame_of w from to number = option_map_or (λ m. frame_by m to number) (member_in w from) []

-- that frame reaches the member that it was encoded for
abbrev pub passing : WorldFields → ℕ → ℕ → ℕ → WorldEvent
passing w from to number = Bring to (frame_of w from to number)

-- These are two correct members with one key for each other, and the first sent this body to the
-- second.
pub record Sends (w : WorldFields) (from to number : ℕ) (giver taker : MemberFields)
    (body : BodyFields) : Type 0 where
  pub gives : member_in w from ≡ Some giver
  pub takes : member_in w to ≡ Some taker
  pub other : from ≢ to
  pub sent :
      slice_get (out (group_in giver.genesis giver.keys.own) (events giver.history)) number
      ≡ Some body
  pub shared : key_for giver.keys to ≡ key_for taker.keys from

-- There are two such members and such a body.
pub record MayPass (w : WorldFields) (from to number : ℕ) : Type 0 where
  pub giver : MemberFields
  pub taker : MemberFields
  pub body : BodyFields
  pub sends : Sends w from to number giver taker body
