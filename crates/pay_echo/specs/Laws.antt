-- Statements about the answers of `Broadcast`. Each is proved as a public law.
use Rattle.std.specs.Prelude.{◌≡◌, ◌≢◌, ℕ, ◌+◌, ◌*◌, ◌<◌, ◌≤◌, ◌⊎◌, ◌↔◌, Bool, true, if◌then◌else◌}
use Rattle.std.specs.Prelude.{List, [], ◌∷◌, ◌++◌, Option, Some, None, is_some, Contains}
use Rattle.std.specs.Option.{option_or}
use Rattle.pay_echo.specs.Broadcast.{Group, Vote, Send, Echo, Ready, IsForeign, value_of}
use Rattle.pay_echo.specs.Broadcast.{value_if_send, size, echoed}
use Rattle.pay_echo.specs.Broadcast.{echo_of, echo_set, other_ready_of, other_ready_set, may_ready}
use Rattle.pay_echo.specs.Broadcast.{readied, ready_of, ready_set, may_deliver, delivered}
use Rattle.pay_echo.specs.Meaning.{Meaning, meaning_of, Sees}
use Rattle.pay_echo.specs.Moves.{IsMoves, Foresees}
use Rattle.pay_echo.specs.Step.{vote_before}
use Rattle.pay_echo.specs.declared.instance.Moves.{Moves}

-- ---- before any vote

abbrev pub NotEchoedAtFirst : Type 0
NotEchoedAtFirst = echoed [] ≡ None

abbrev pub NotReadyAtFirst : Type 0
NotReadyAtFirst = (g : Group) → readied g [] ≡ None

abbrev pub NotDeliveredAtFirst : Type 0
NotDeliveredAtFirst = (g : Group) → delivered g [] ≡ None

-- ---- one more vote

-- what a SEND makes the process echo is its value
abbrev pub SentIsItsValue : Type 0
SentIsItsValue = (x : Vote) → (value_if_send x ≡ None) ⊎ (value_if_send x ≡ Some (value_of x))

-- a vote's value, if something holds
abbrev pub value_if : Bool → Vote → Option (List ℕ)
value_if holds x = if holds then Some (value_of x) else None

abbrev pub EchoedByOneMore : Type 0
EchoedByOneMore =
    (votes : List Vote) (x : Vote)
    → echoed (votes ++ x ∷ []) ≡ option_or (echoed votes) (value_if_send x)

abbrev pub ReadiedByOneMore : Type 0
ReadiedByOneMore =
    (g : Group) (votes : List Vote) (x : Vote)
    → readied g (votes ++ x ∷ [])
    ≡ option_or (readied g votes) (value_if (may_ready g (votes ++ x ∷ []) (value_of x)) x)

abbrev pub DeliveredByOneMore : Type 0
DeliveredByOneMore =
    (g : Group) (votes : List Vote) (x : Vote)
    → delivered g (votes ++ x ∷ [])
    ≡ option_or (delivered g votes) (value_if (may_deliver g (votes ++ x ∷ []) (value_of x)) x)

-- what was foreseen of one more vote, after any votes, is what became known by it
abbrev pub ForeseenBecame : Type 0
ForeseenBecame =
    (g : Group) (votes : List Vote) (old new : Meaning) (x : Vote) (moves : Moves)
    → old ≡ meaning_of g votes → Foresees old x moves → Sees old new x → IsMoves old new moves

-- ---- what was known stays, and nobody leaves a set

abbrev pub EchoedStays : Type 0
EchoedStays =
    (votes more : List Vote) (v : List ℕ) → echoed votes ≡ Some v → echoed (votes ++ more) ≡ Some v

abbrev pub ReadiedStays : Type 0
ReadiedStays =
    (g : Group) (votes more : List Vote) (v : List ℕ) → readied g votes ≡ Some v
    → readied g (votes ++ more) ≡ Some v

abbrev pub DeliveredStays : Type 0
DeliveredStays =
    (g : Group) (votes more : List Vote) (v : List ℕ) → delivered g votes ≡ Some v
    → delivered g (votes ++ more) ≡ Some v

abbrev pub EchoStays : Type 0
EchoStays =
    (g : Group) (votes more : List Vote) (p : ℕ) (v : List ℕ) → echo_of g votes p ≡ Some v
    → echo_of g (votes ++ more) p ≡ Some v

abbrev pub ReadyStays : Type 0
ReadyStays =
    (g : Group) (votes more : List Vote) (p : ℕ) (v : List ℕ) → ready_of g votes p ≡ Some v
    → ready_of g (votes ++ more) p ≡ Some v

abbrev pub OtherReadyStays : Type 0
OtherReadyStays =
    (g : Group) (votes more : List Vote) (p : ℕ) (v : List ℕ) → other_ready_of g votes p ≡ Some v
    → other_ready_of g (votes ++ more) p ≡ Some v

abbrev pub EchoSetGrows : Type 0
EchoSetGrows =
    (g : Group) (votes more : List Vote) (v : List ℕ)
    → size g.members (echo_set g votes v) ≤ size g.members (echo_set g (votes ++ more) v)

abbrev pub ReadySetGrows : Type 0
ReadySetGrows =
    (g : Group) (votes more : List Vote) (v : List ℕ)
    → size g.members (ready_set g votes v) ≤ size g.members (ready_set g (votes ++ more) v)

abbrev pub OtherReadySetGrows : Type 0
OtherReadySetGrows =
    (g : Group) (votes more : List Vote) (v : List ℕ)
    → size g.members (other_ready_set g votes v)
    ≤ size g.members (other_ready_set g (votes ++ more) v)

-- ---- a second vote of one process changes nothing

abbrev pub SecondSend : Type 0
SecondSend =
    (g : Group) (votes : List Vote) (v w : List ℕ) → g.own < g.members → echoed votes ≡ Some w
    → meaning_of g (votes ++ Send v ∷ []) ≡ meaning_of g votes

abbrev pub SecondEcho : Type 0
SecondEcho =
    (g : Group) (votes : List Vote) (p : ℕ) (v w : List ℕ) → g.own < g.members → p < g.members
    → p ≢ g.own → echo_of g votes p ≡ Some w
    → meaning_of g (votes ++ Echo p v ∷ []) ≡ meaning_of g votes

abbrev pub SecondReady : Type 0
SecondReady =
    (g : Group) (votes : List Vote) (p : ℕ) (v w : List ℕ) → g.own < g.members → p < g.members
    → p ≢ g.own → ready_of g votes p ≡ Some w
    → meaning_of g (votes ++ Ready p v ∷ []) ≡ meaning_of g votes

-- ---- which processes are in a set, and which votes came

abbrev pub InEchoSet : Type 0
InEchoSet =
    (g : Group) (votes : List Vote) (v : List ℕ) (p : ℕ)
    → (echo_set g votes v p ≡ true) ↔ (echo_of g votes p ≡ Some v)

abbrev pub InReadySet : Type 0
InReadySet =
    (g : Group) (votes : List Vote) (v : List ℕ) (p : ℕ)
    → (ready_set g votes v p ≡ true) ↔ (ready_of g votes p ≡ Some v)

abbrev pub InOtherReadySet : Type 0
InOtherReadySet =
    (g : Group) (votes : List Vote) (v : List ℕ) (p : ℕ)
    → (other_ready_set g votes v p ≡ true) ↔ ((p ≢ g.own) × (ready_of g votes p ≡ Some v))

abbrev pub OwnEcho : Type 0
OwnEcho = (g : Group) (votes : List Vote) → echo_of g votes g.own ≡ echoed votes

abbrev pub OwnReady : Type 0
OwnReady = (g : Group) (votes : List Vote) → ready_of g votes g.own ≡ readied g votes

abbrev pub SendCame : Type 0
SendCame = (votes : List Vote) (v : List ℕ) → echoed votes ≡ Some v → Contains votes (Send v)

abbrev pub EchoCame : Type 0
EchoCame =
    (g : Group) (votes : List Vote) (p : ℕ) (v : List ℕ) → p ≢ g.own → echo_of g votes p ≡ Some v
    → Contains votes (Echo p v)

abbrev pub ReadyCame : Type 0
ReadyCame =
    (g : Group) (votes : List Vote) (p : ℕ) (v : List ℕ) → p ≢ g.own → ready_of g votes p ≡ Some v
    → Contains votes (Ready p v)

-- if a SEND came, the first one is known
abbrev pub SendIsEchoed : Type 0
SendIsEchoed = (votes : List Vote) (v : List ℕ) → Contains votes (Send v) → echoed votes ≢ None

abbrev pub EchoCounts : Type 0
EchoCounts =
    (g : Group) (votes : List Vote) (p : ℕ) (v : List ℕ) → p ≢ g.own → Contains votes (Echo p v)
    → echo_of g votes p ≢ None

abbrev pub ReadyCounts : Type 0
ReadyCounts =
    (g : Group) (votes : List Vote) (p : ℕ) (v : List ℕ) → p ≢ g.own → Contains votes (Ready p v)
    → ready_of g votes p ≢ None

-- this vote, for another value
abbrev pub with_value : List ℕ → Vote → Vote
with_value v (Send w) = Send v
with_value v (Echo p w) = Echo p v
with_value v (Ready p w) = Ready p v

-- a vote stands in another's place exactly if a vote of its kind came from its process
abbrev pub VotedIsTaken : Type 0
VotedIsTaken =
    (g : Group) (votes : List Vote) (x : Vote) → IsForeign g x
    → (is_some (vote_before (meaning_of g votes) x) ≡ true)
    ↔ ((v : List ℕ) × Contains votes (with_value v x))

-- ---- why a process is READY, and why it delivers

abbrev pub HasEchoQuorum : Group → List Vote → List ℕ → Type 0
HasEchoQuorum g votes v = g.members + g.faults < 2 * size g.members (echo_set g votes v)

abbrev pub IsAmplified : Group → List Vote → List ℕ → Type 0
IsAmplified g votes v = g.faults < size g.members (other_ready_set g votes v)

abbrev pub HasReadys : Group → List Vote → List ℕ → Type 0
HasReadys g votes v = 2 * g.faults < size g.members (ready_set g votes v)

abbrev pub WhyReady : Type 0
WhyReady =
    (g : Group) (votes : List Vote) (v : List ℕ) → readied g votes ≡ Some v
    → HasEchoQuorum g votes v ⊎ IsAmplified g votes v

abbrev pub WhyDelivered : Type 0
WhyDelivered =
    (g : Group) (votes : List Vote) (v : List ℕ) → delivered g votes ≡ Some v → HasReadys g votes v

-- if a process may send READY, it does
abbrev pub QuorumMakesReady : Type 0
QuorumMakesReady =
    (g : Group) (votes : List Vote) (v : List ℕ) → HasEchoQuorum g votes v → readied g votes ≢ None

abbrev pub AmplificationMakesReady : Type 0
AmplificationMakesReady =
    (g : Group) (votes : List Vote) (v : List ℕ) → IsAmplified g votes v → readied g votes ≢ None

abbrev pub ReadysDeliver : Type 0
ReadysDeliver =
    (g : Group) (votes : List Vote) (v : List ℕ) → HasReadys g votes v → delivered g votes ≢ None

-- two quorums of ECHOs that a process received are for one value
abbrev pub OneValueByQuorum : Type 0
OneValueByQuorum =
    (g : Group) (votes : List Vote) (v w : List ℕ) → HasEchoQuorum g votes v
    → HasEchoQuorum g votes w
    → v ≡ w
