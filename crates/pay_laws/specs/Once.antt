-- How often a member votes in one broadcast.
use Rattle.std.specs.Prelude.{ℕ, ◌≤◌, Bool, List}
use Rattle.std.specs.List.{count_by}
use Rattle.pay_frame.specs.declared.body.Kind.{Kind}
use Rattle.pay_frame.specs.Frame.{BodyFields}
use Rattle.pay_echo.specs.Broadcast.{Group}
use Rattle.pay_channel.specs.History.{Event, out}
use Rattle.pay_channel.specs.Asked.{is_send_kind}
use Rattle.pay_channel.specs.SentLaws.{is_echo, is_ready_kind, is_said}
use Rattle.pay_channel.specs.Taken.{taken_bodies}
use Rattle.pay_member.specs.declared.ledger.Lie.{Lie}
use Rattle.pay_member.specs.Lies.{HasTold}
use Rattle.pay_world.specs.Setting.{Setting, IsCorrect, HasFewFaulty}
use Rattle.pay_laws.specs.Restarts.{Step, AreFair, history_by_steps}

-- in each broadcast, by its owner and number, at most one of these bodies is of this kind
abbrev pub AreOnce : (Kind → Bool) → List BodyFields → Type 0
AreOnce of_kind bodies = (a s : ℕ) → count_by (is_said of_kind a s) bodies ≤ 1

-- at most one SEND, one ECHO and one READY
pub record HasVotesOnce (bodies : List BodyFields) : Type 0 where
  pub send : AreOnce is_send_kind bodies
  pub echo : AreOnce is_echo bodies
  pub ready : AreOnce is_ready_kind bodies

-- this holds for all that a member sends
abbrev pub NobodyVotesTwice : Type 0
NobodyVotesTwice = (g : Group) (history : List Event) → HasVotesOnce (out g history)

-- This holds for all that a correct member accepts from another, however often and whichever
-- members start again. If two votes of one kind in one broadcast are accepted from one member, the
-- member is faulty, or a frame is forged.
abbrev pub NoVoteIsTakenTwice : Type 0
NoVoteIsTakenTwice =
    (w : Setting) (steps : List Step) (i j : ℕ) → HasFewFaulty w → AreFair w steps
    → IsCorrect w i → IsCorrect w j
    → HasVotesOnce (taken_bodies j (history_by_steps w steps i))

-- No correct member finds a protocol violation of another correct member. A member with a protocol
-- violation is faulty, or more than f members are, or a frame is forged.
abbrev pub NoCorrectMemberLies : Type 0
NoCorrectMemberLies =
    (w : Setting) (steps : List Step) (i j : ℕ) → HasFewFaulty w → AreFair w steps
    → IsCorrect w i → IsCorrect w j
    → (lie : Lie) → ¬ (HasTold (history_by_steps w steps i) j lie)
