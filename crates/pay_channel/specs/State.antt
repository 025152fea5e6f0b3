-- What a channel holds, and how it follows a history.
use Rattle.std.specs.Prelude.{◌≡◌, ℕ, ◌<◌, ◌≤◌, slice_index, ◌&&◌, ◌==◌, if◌then◌else◌, List, []}
use Rattle.std.specs.Prelude.{◌∷◌, length, Option}
use Rattle.pay_frame.specs.Frame.{BodyFields}
use Rattle.pay_echo.specs.Broadcast.{Group, Vote}
use Rattle.pay_frame.specs.declared.limits.TheConstants.{MOST_MEMBERS}
use Rattle.pay_echo.specs.Meaning.{Meaning, meaning_of}
use Rattle.pay_channel.specs.History.{Event, asks, votes, out, listed_values}

-- a broadcast about which something is known
pub record Slot : Type 0 where
  pub owner : ℕ
  pub seq : ℕ
  pub meaning : Meaning

pub record State : Type 0 where
  pub group : Group
  pub asks : ℕ
  pub slots : List Slot
  pub sent : List BodyFields

-- what is known about the broadcast s of account a; without a slot no vote came
abbrev pub meaning_in : Group → List Slot → ℕ → ℕ → Meaning
meaning_in g [] a s = meaning_of g []
meaning_in g (x ∷ xs) a s = if x.owner == a && x.seq == s then x.meaning else meaning_in g xs a s

unfoldable pub meaning_at : State → ℕ → ℕ → Meaning
meaning_at c a s = meaning_in c.group c.slots a s

unfoldable pub delivered_value_at : State → ℕ → ℕ → Option (List ℕ)
delivered_value_at c a s = (meaning_at c a s).delivered

-- each account's list of values
unfoldable pub channel_lists : State → ℕ → List (List ℕ)
channel_lists c a = listed_values c.group (delivered_value_at c) a

-- The channel is what this history makes it.
pub record IsStateBy (c : State) (history : List Event) : Type 0 where
  pub meanings : (a s : ℕ) → meaning_at c a s ≡ meaning_of c.group (votes c.group.own a s history)
  pub asks : c.asks ≡ asks history
  pub sent : c.sent ≡ out c.group history

-- What holds of every channel. Each broadcast's meaning is that of some votes, and the numbers kept
-- beside the state are the lengths of the members' lists.
pub record IsSound (c : State) (lengths : List ℕ) : Type 0 where
  pub few : c.group.members ≤ MOST_MEMBERS
  pub own : c.group.own < c.group.members
  pub reached : (a s : ℕ) → (votes : List Vote) × (meaning_at c a s ≡ meaning_of c.group votes)
  pub places : length lengths ≡ c.group.members
  pub counted : (a : ℕ) → a < c.group.members → slice_index lengths a ≡ length (channel_lists c a)
