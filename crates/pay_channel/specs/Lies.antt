-- What no correct member sends.
use Rattle.std.specs.Prelude.{◌≡◌, ◌⊎◌, ℕ, Bool, true, false, List, Option, Some, None, is_some}
use Rattle.std.specs.Prelude.{Contains}
use Rattle.pay_frame.specs.Frame.{BodyFields}
use Rattle.pay_echo.specs.Broadcast.{Vote}
use Rattle.pay_echo.specs.Step.{vote_before}
use Rattle.pay_channel.specs.History.{Event, From, body_of, counts_from, vote_of}
use Rattle.pay_channel.specs.State.{State, meaning_at}

-- A body of p that no correct member sends after what came from p before: a SEND about another's
-- account, or a second body of its kind about one broadcast.
-- page: `IsLie`: a SEND about another's account, or a second SEND, ECHO or READY about one
--   broadcast, whatever its value. In the book: a correct process sends each once
abbrev pub IsLie : List Event → ℕ → BodyFields → Type 0
IsLie history p body =
    (counts_from p body ≡ false)
    ⊎ ((v : List ℕ) × Contains history (From p (body_of body.kind body.owner body.seq v)))

-- whether a vote stands in a vote's place; a body that is no vote is a protocol violation
abbrev pub is_lie_behind : State → BodyFields → Option Vote → Bool
is_lie_behind c body None = true
is_lie_behind c body (Some x) = is_some (vote_before (meaning_at c body.owner body.seq) x)

-- what a channel says about a body of p
abbrev pub is_lie_to : State → ℕ → BodyFields → Bool
is_lie_to c p body = is_lie_behind c body (vote_of (From p body))
