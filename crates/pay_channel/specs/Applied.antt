-- What an event does to a channel.
use Rattle.std.specs.Prelude.{◌≡◌, ℕ, ◌+◌, false, ◌&&◌, ◌==◌, ◌++◌, List, length, Option, Some}
use Rattle.std.specs.Prelude.{None, if◌then◌else◌}
use Rattle.pay_frame.specs.declared.body.Kind.TheVariants.{Echo, Ready}
use Rattle.pay_frame.specs.Frame.{BodyFields}
use Rattle.pay_echo.specs.Broadcast.{Vote}
use Rattle.pay_echo.specs.Meaning.{Meaning, Sees, became}
use Rattle.pay_channel.specs.History.{Event, Ask, From, is_ask, owner_of, seq_of, vote_of, is_about}
use Rattle.pay_channel.specs.History.{send_of, newly}
use Rattle.pay_channel.specs.State.{State, meaning_at, channel_lists}
use Rattle.pay_channel.specs.declared.channel.Applied.{Applied}
use Rattle.pay_channel.specs.declared.channel.EventRef.{EventRef}
use Rattle.pay_channel.specs.declared.channel.EventRef.TheVariants as given

-- what an `EventRef` holds
abbrev pub event_of_ref : EventRef → Event
event_of_ref (given.Ask value) = Ask value.now
event_of_ref (given.From process body) = From process body.now

-- one more vote, or none
abbrev pub SeesIfVote : Meaning → Meaning → Option Vote → Type 0
SeesIfVote old new None = new ≡ old
SeesIfVote old new (Some x) = Sees old new x

-- the bodies that are sent if a broadcast's meaning changes from old to new
abbrev pub bodies_said : ℕ → ℕ → Meaning → Meaning → List BodyFields
bodies_said a s old new =
    newly Echo a s old.echoed new.echoed ++ newly Ready a s old.readied new.readied

-- one more vote in the broadcast s of account a: the other broadcasts are unchanged; a SEND, if
-- any, and what became known are at the sent list's end
pub record TakesVote (old new : State) (a s : ℕ) (vote : Option Vote) (send : List BodyFields)
    : Type 0 where
  pub group : new.group ≡ old.group
  pub asks : new.asks ≡ old.asks
  pub here : SeesIfVote (meaning_at old a s) (meaning_at new a s) vote
  pub others : (b t : ℕ) → (a == b && s == t) ≡ false → meaning_at new b t ≡ meaning_at old b t
  pub sent :
      new.sent ≡ old.sent ++ (send ++ bodies_said a s (meaning_at old a s) (meaning_at new a s))

-- what became known of the broadcast s of account a, and by how much the account's list grew
pub record IsToldOf (old new : State) (a s : ℕ) (applied : Applied) : Type 0 where
  pub echo : applied.echo ≡ became (meaning_at old a s).echoed (meaning_at new a s).echoed
  pub ready : applied.ready ≡ became (meaning_at old a s).readied (meaning_at new a s).readied
  pub deliver :
      applied.deliver ≡ became (meaning_at old a s).delivered (meaning_at new a s).delivered
  pub grown : length (channel_lists old a) + applied.grown ≡ length (channel_lists new a)

-- The state after an event: its broadcast has one more vote, the other broadcasts are unchanged,
-- and what became known is at the sent list's end.
pub record Takes (old new : State) (e : Event) : Type 0 where
  pub group : new.group ≡ old.group
  pub asks : new.asks ≡ (if is_ask e then old.asks + 1 else old.asks)
  pub here :
      let a = owner_of old.group.own e in
      let s = seq_of old.asks e in
      SeesIfVote (meaning_at old a s) (meaning_at new a s) (vote_of e)
  pub others :
      (a s : ℕ) → is_about old.group.own a s old.asks e ≡ false
      → meaning_at new a s ≡ meaning_at old a s
  pub sent :
      new.sent
      ≡ old.sent
      ++ (send_of old.group.own old.asks e
      ++ bodies_said (owner_of old.group.own e) (seq_of old.asks e)
      (meaning_at old (owner_of old.group.own e) (seq_of old.asks e))
      (meaning_at new (owner_of old.group.own e) (seq_of old.asks e)))

-- the answer of `apply`: what became known in the event's broadcast, and by how much its owner's
-- list grew
abbrev pub IsApplied : State → State → Event → Applied → Type 0
IsApplied old new e applied =
    IsToldOf old new (owner_of old.group.own e) (seq_of old.asks e) applied

-- nothing visible changed
pub record IsAsBefore (old new : State) : Type 0 where
  pub group : new.group ≡ old.group
  pub asks : new.asks ≡ old.asks
  pub sent : new.sent ≡ old.sent
  pub meanings : (a s : ℕ) → meaning_at new a s ≡ meaning_at old a s
