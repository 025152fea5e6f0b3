-- What happens to the members of a group if some start again, each with a prefix of its history.
use Rattle.std.specs.Prelude.{◌≡◌, ℕ, ◌==◌, if◌then◌else◌, List, [], ◌∷◌, ◌++◌, take, ⊤}
use Rattle.std.specs.List.{All}
use Rattle.pay_channel.specs.Prefix.{IsPrefix}
use Rattle.pay_channel.specs.History.{Event}
use Rattle.pay_member.specs.Remembering.{Remembers}
use Rattle.pay_world.specs.Setting.{Setting, group_at, IsCorrect, HasFewFaulty}
use Rattle.pay_world.specs.Actions.{Action, adds, history_by}
use Rattle.pay_world.specs.Genuine.{IsGenuineIn, AreGenuine}
use Rattle.pay_world.specs.Headline.{Headline}
use Rattle.pay_laws.specs.Forgetting.{IsAmong}

-- An action happens, or a member starts again with a count of its events and lost the later ones.
pub data Step : Type 0 where
  Happens : Action → Step
  Restarts : ℕ → ℕ → Step

-- the history of member i after a step
abbrev pub history_with : Setting → ℕ → List Event → Step → List Event
history_with w i history (Happens d) = history ++ adds w i history d
history_with w i history (Restarts k kept) = if k == i then take kept history else history

abbrev pub history_through : Setting → ℕ → List Event → List Step → List Event
history_through w i history [] = history
history_through w i history (s ∷ steps) = history_through w i (history_with w i history s) steps

-- The history of each member by these steps.
unfoldable pub history_by_steps : Setting → List Step → ℕ → List Event
history_by_steps w steps i = history_through w i [] steps

abbrev pub IsStepAmong : Setting → ℕ → List Event → Step → Type 0
IsStepAmong w k history (Happens d) = IsAmong w k history d
IsStepAmong w k history (Restarts j kept) = ⊤

-- An action is genuine. A correct member that starts again has all that it sent to correct members,
-- as far as that came.
abbrev pub IsFair : Setting → List Step → Step → Type 0
IsFair w before (Happens d) = IsGenuineIn w (history_by_steps w before) d
IsFair w before (Restarts k kept) =
    IsCorrect w k → All (IsStepAmong w k (take kept (history_by_steps w before k))) before

-- each step is fair, after those before it
pub record AreFair (w : Setting) (steps : List Step) : Type 0 where
  pub each :
      (before : List Step) (s : Step) (after : List Step) → steps ≡ before ++ s ∷ after
      → IsFair w before s

-- There are actions, none of them a forged frame, that give each member its history after these
-- steps.
abbrev pub RestartIsNoLie : Type 0
RestartIsNoLie =
    (w : Setting) (steps : List Step) → AreFair w steps
    → (actions : List Action) × AreGenuine w actions
    × ((i : ℕ) → history_by w actions i ≡ history_by_steps w steps i)

-- The safety theorem holds for such actions, none of them a forged frame. Each prefix of a history
-- that nobody lost is the one after a prefix of them.
abbrev pub HeadlineOfRestarts : Type 0
HeadlineOfRestarts =
    (w : Setting) (opening : List ℕ) (steps : List Step) → HasFewFaulty w → AreFair w steps
    → (actions : List Action) × AreGenuine w actions × Headline w opening actions
    × ((i : ℕ) → history_by w actions i ≡ history_by_steps w steps i)
    × ((i : ℕ) (history : List Event) → IsPrefix history (history_by_steps w steps i)
    → (one : List Action) × IsPrefix one actions × (history_by w one i ≡ history))

-- A correct member keeps its state, however often and whichever members start again.
abbrev pub CorrectMembersRemember : Type 0
CorrectMembersRemember =
    (w : Setting) (steps : List Step) → HasFewFaulty w → AreFair w steps
    → (i : ℕ) → IsCorrect w i → Remembers (group_at w i) (history_by_steps w steps i)
