-- Statements about the votes that a history has in a broadcast. Each is proved as a public law.
use Rattle.std.specs.Prelude.{◌≡◌, ◌≢◌, ℕ, ◌+◌, ◌↔◌, false, if◌then◌else◌, List, [], ◌∷◌, ◌++◌}
use Rattle.std.specs.Prelude.{Contains}
use Rattle.pay_frame.specs.declared.body.Kind.TheVariants.{Send, Echo, Ready}
use Rattle.pay_echo.specs.Broadcast as one
use Rattle.pay_channel.specs.Prefix.{IsPrefix}
use Rattle.pay_channel.specs.History.{Event, From, is_ask, asks, is_about, votes_in, votes, body_of}

-- no event
abbrev pub NoVotesAtFirst : Type 0
NoVotesAtFirst = (own a s : ℕ) → votes own a s [] ≡ []

abbrev pub NoAsksAtFirst : Type 0
NoAsksAtFirst = asks [] ≡ 0

-- one more event
abbrev pub VotesByOneMore : Type 0
VotesByOneMore =
    (own a s : ℕ) (history : List Event) (e : Event)
    → votes own a s (history ++ e ∷ []) ≡ votes own a s history ++ votes_in own a s (asks history) e

abbrev pub AsksByOneMore : Type 0
AsksByOneMore =
    (history : List Event) (e : Event)
    → asks (history ++ e ∷ []) ≡ (if is_ask e then asks history + 1 else asks history)

-- an event is no vote in any broadcast except its own
abbrev pub OthersUntouched : Type 0
OthersUntouched =
    (own a s : ℕ) (history : List Event) (e : Event) → is_about own a s (asks history) e ≡ false
    → votes own a s (history ++ e ∷ []) ≡ votes own a s history

-- votes grow only at their end
abbrev pub VotesGrow : Type 0
VotesGrow =
    (own a s : ℕ) (history more : List Event)
    → IsPrefix (votes own a s history) (votes own a s (history ++ more))

-- a process's ECHO is among the votes exactly if it was accepted from that process; so is its READY
abbrev pub EchoIsTaken : Type 0
EchoIsTaken =
    (own a s : ℕ) (history : List Event) (p : ℕ) (v : List ℕ)
    → Contains (votes own a s history) (one.Echo p v)
    ↔ Contains history (From p (body_of Echo a s v))

abbrev pub ReadyIsTaken : Type 0
ReadyIsTaken =
    (own a s : ℕ) (history : List Event) (p : ℕ) (v : List ℕ)
    → Contains (votes own a s history) (one.Ready p v)
    ↔ Contains history (From p (body_of Ready a s v))

-- another's SEND is among the votes exactly if it was accepted from its owner
abbrev pub SendIsTaken : Type 0
SendIsTaken =
    (own a s : ℕ) (history : List Event) (v : List ℕ) → a ≢ own
    → Contains (votes own a s history) (one.Send v) ↔ Contains history (From a (body_of Send a s v))
