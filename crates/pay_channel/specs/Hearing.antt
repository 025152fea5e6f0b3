-- What a vote does among a member's broadcasts, and the bodies to send after it.
use Rattle.std.specs.Prelude.{◌≡◌, ℕ, false, ◌&&◌, ◌==◌, List}
use Rattle.std.specs.Bool.{then_some}
use Rattle.pay_frame.specs.declared.body.Kind.TheVariants.{Echo, Ready}
use Rattle.pay_echo.specs.Broadcast.{Group, Vote, value_of}
use Rattle.pay_echo.specs.Meaning.{Meaning, Sees}
use Rattle.pay_echo.specs.Moves.{IsMoves}
use Rattle.pay_channel.specs.History.{body_of}
use Rattle.pay_channel.specs.State.{Slot, meaning_in}
use Rattle.pay_channel.specs.declared.channel.Outgoing.{Outgoing}

-- the broadcast s of account a has one more vote, the others are unchanged
pub record HearsVote (g : Group) (old new : List Slot) (a s : ℕ) (x : Vote) : Type 0 where
  pub here : Sees (meaning_in g old a s) (meaning_in g new a s) x
  pub others : (b t : ℕ) → (a == b && s == t) ≡ false → meaning_in g new b t ≡ meaning_in g old b t

-- what became known, and a body of the vote's value for each of ECHO and READY that did
pub record IsOutgoing (a s : ℕ) (x : Vote) (old new : Meaning) (out : Outgoing) : Type 0 where
  pub moves : IsMoves old new out.moves
  pub echo : out.echo ≡ then_some out.moves.echo (body_of Echo a s (value_of x))
  pub ready : out.ready ≡ then_some out.moves.ready (body_of Ready a s (value_of x))
