-- A member that loses what it accepted after a prefix of its history.
use Rattle.std.specs.Prelude.{◌≡◌, ◌≢◌, ℕ, ◌<◌, ◌==◌, not, List, ◌++◌, length, ⊤}
use Rattle.std.specs.List.{All, filter}
use Rattle.pay_channel.specs.History.{Event, out}
use Rattle.pay_world.specs.Setting.{Setting, group_at, IsCorrect}
use Rattle.pay_world.specs.Actions.{Action, Asks, Brings, member_of, history_by}
use Rattle.pay_world.specs.Genuine.{AreGenuine}

-- the actions that happen to others than member k
abbrev pub elsewhere : ℕ → List Action → List Action
elsewhere k actions = filter (λ d. not (member_of d == k)) actions

-- A frame of member k that a correct member receives is among all that k sent according to this
-- history.
abbrev pub IsAmong : Setting → ℕ → List Event → Action → Type 0
IsAmong w k history (Asks j v) = ⊤
IsAmong w k history (Brings j from number body) =
    from ≡ k → IsCorrect w j → number < length (out (group_at w k) history)

-- Member k has what it accepted by the first actions, and lost what it accepted by the later ones.
-- The actions without the lost ones have no forged frame if there was none before. They change
-- nobody else's history, and k has what it kept.
abbrev pub ForgettingIsNoLie : Type 0
ForgettingIsNoLie =
    (w : Setting) (first later : List Action) (k : ℕ) → AreGenuine w (first ++ later)
    → (IsCorrect w k → All (IsAmong w k (history_by w first k)) later)
    → AreGenuine w (first ++ elsewhere k later)
    × (history_by w (first ++ elsewhere k later) k ≡ history_by w first k)
    × ((i : ℕ) → i ≢ k
    → history_by w (first ++ elsewhere k later) i ≡ history_by w (first ++ later) i)
