-- Statements about correct members' histories. Each is proved as a public law.
use Rattle.std.specs.Prelude.{◌≡◌, ◌⊎◌, ℕ, ◌≤◌, List, [], ◌++◌, length, slice_get, Some}
use Rattle.pay_channel.specs.Prefix.{IsPrefix}
use Rattle.pay_channel.specs.History.{Event, seqs, delivered_at, list_of}
use Rattle.pay_channel.specs.Asked.{asked_values}
use Rattle.pay_world.specs.Setting.{Setting, group_at, IsCorrect, HasFewFaulty}
use Rattle.pay_world.specs.Actions.{Action, adds, history_by}
use Rattle.pay_world.specs.Genuine.{IsGenuineIn, AreGenuine}
use Rattle.pay_world.specs.Stands.{Stands, IsLonger, IsAllowed, Grow}
use Rattle.pay_world.specs.Convergence.{AllTaken}

-- ---- authenticity and the rule of READY

abbrev pub StandsAtFirst : Type 0
StandsAtFirst = (w : Setting) → Stands w (λ i. [])

abbrev pub StandsByOneMore : Type 0
StandsByOneMore =
    (w : Setting) (old new : ℕ → List Event) (k : ℕ) (e : Event)
    → HasFewFaulty w → IsLonger old new k e → IsAllowed w old k e → Stands w old → Stands w new

-- correct members stand after one more genuine action
abbrev pub StandsByAction : Type 0
StandsByAction =
    (w : Setting) (old new : ℕ → List Event) (d : Action)
    → HasFewFaulty w → IsGenuineIn w old d → ((i : ℕ) → new i ≡ old i ++ adds w i (old i) d)
    → Stands w old → Stands w new

abbrev pub GenuineStands : Type 0
GenuineStands =
    (w : Setting) (actions : List Action)
    → HasFewFaulty w → AreGenuine w actions → Stands w (history_by w actions)

-- ---- two correct members, each at a moment of its own

-- two correct members deliver no two values
abbrev pub Agreement : Type 0
Agreement =
    (w : Setting) (histories one other : ℕ → List Event) (i j a s : ℕ) (v u : List ℕ)
    → Stands w histories → HasFewFaulty w → Grow one histories → Grow other histories
    → IsCorrect w i → IsCorrect w j
    → delivered_at (group_at w i) (one i) a s ≡ Some v
    → delivered_at (group_at w j) (other j) a s ≡ Some u → v ≡ u

-- one of their lists of an account is a prefix of the other
abbrev pub StandingListsCompare : Type 0
StandingListsCompare =
    (w : Setting) (histories one other : ℕ → List Event) (i j a : ℕ)
    → Stands w histories → HasFewFaulty w → Grow one histories → Grow other histories
    → IsCorrect w i → IsCorrect w j
    → IsPrefix (list_of (group_at w i) (one i) a) (list_of (group_at w j) (other j) a)
    ⊎ IsPrefix (list_of (group_at w j) (other j) a) (list_of (group_at w i) (one i) a)

-- ---- of a correct owner

-- what is delivered under a number is the value that the owner submitted under it
abbrev pub Integrity : Type 0
Integrity =
    (w : Setting) (histories : ℕ → List Event) (i a s : ℕ) (v : List ℕ)
    → Stands w histories → HasFewFaulty w → IsCorrect w i → IsCorrect w a
    → delivered_at (group_at w i) (histories i) a s ≡ Some v
    → slice_get (asked_values (histories a)) s ≡ Some v

abbrev pub ListIsAsked : Type 0
ListIsAsked =
    (w : Setting) (histories : ℕ → List Event) (i a : ℕ)
    → Stands w histories → HasFewFaulty w → IsCorrect w i → IsCorrect w a
    → IsPrefix (list_of (group_at w i) (histories i) a) (asked_values (histories a))

-- ---- of any member

abbrev pub NothingIsTakenBack : Type 0
NothingIsTakenBack =
    (w : Setting) (old new : ℕ → List Event) (i a : ℕ) → Grow old new
    → IsPrefix (list_of (group_at w i) (old i) a) (list_of (group_at w i) (new i) a)

-- ---- the moment at which nothing is in flight between correct members

-- they delivered equal values
abbrev pub Convergence : Type 0
Convergence =
    (w : Setting) (histories : ℕ → List Event) (i j a s : ℕ)
    → Stands w histories → HasFewFaulty w → AllTaken w histories → IsCorrect w i → IsCorrect w j
    → delivered_at (group_at w i) (histories i) a s ≡ delivered_at (group_at w j) (histories j) a s

-- they have equal lists
abbrev pub ListsConverge : Type 0
ListsConverge =
    (w : Setting) (histories : ℕ → List Event) (i j : ℕ)
    → Stands w histories → HasFewFaulty w → AllTaken w histories → IsCorrect w i → IsCorrect w j
    → list_of (group_at w i) (histories i) ≡ list_of (group_at w j) (histories j)

-- what a correct owner submitted is delivered
abbrev pub AsksAreDelivered : Type 0
AsksAreDelivered =
    (w : Setting) (histories : ℕ → List Event) (i a s : ℕ) (v : List ℕ)
    → Stands w histories → HasFewFaulty w → AllTaken w histories → IsCorrect w i → IsCorrect w a
    → slice_get (asked_values (histories a)) s ≡ Some v
    → delivered_at (group_at w i) (histories i) a s ≡ Some v

-- what a correct owner submitted is the owner's list
abbrev pub ListIsAllAsked : Type 0
ListIsAllAsked =
    (w : Setting) (histories : ℕ → List Event) (i a : ℕ)
    → Stands w histories → HasFewFaulty w → AllTaken w histories → IsCorrect w i → IsCorrect w a
    → length (asked_values (histories a)) ≤ seqs
    → list_of (group_at w i) (histories i) a ≡ asked_values (histories a)
