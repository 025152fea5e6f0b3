-- Statements about what a member that lost state finds. Each is proved as a public law. Such a
-- member counts as faulty.
use Rattle.std.specs.Prelude.{◌≡◌, ◌≢◌, ◌⊎◌, ℕ, ◌≤◌, true, List, length, slice_get, Some}
use Rattle.pay_channel.specs.History.{Event, delivered_at, list_of}
use Rattle.pay_channel.specs.Asked.{asked_values}
use Rattle.pay_member.specs.Remembering.{HasForgotten}
use Rattle.pay_world.specs.Setting.{Setting, group_at, IsCorrect, HasFewFaulty}
use Rattle.pay_world.specs.Stands.{Stands}
use Rattle.pay_world.specs.Convergence.{AllTaken, HasHeardAll}

-- If each correct member, including j, accepted all that the others sent, then a member that
-- accepted all that they sent delivered what j did, even if it is faulty.
abbrev pub ListenerDelivers : Type 0
ListenerDelivers =
    (w : Setting) (histories : ℕ → List Event) (i j a s : ℕ) (v : List ℕ)
    → Stands w histories → HasFewFaulty w → AllTaken w histories → IsCorrect w j
    → w.faulty i ≡ true → HasHeardAll w histories i
    → delivered_at (group_at w j) (histories j) a s ≡ Some v
    → delivered_at (group_at w i) (histories i) a s ≡ Some v

-- So a member has the evidence that it lost state, if j's list of its account has a value under a
-- number under which it didn't submit that value.
abbrev pub ListedIsNoticed : Type 0
ListedIsNoticed =
    (w : Setting) (histories : ℕ → List Event) (i j s : ℕ) (v : List ℕ)
    → Stands w histories → HasFewFaulty w → AllTaken w histories → IsCorrect w j
    → w.faulty i ≡ true → HasHeardAll w histories i
    → slice_get (list_of (group_at w j) (histories j) i) s ≡ Some v
    → slice_get (asked_values (histories i)) s ≢ Some v
    → HasForgotten (group_at w i) (histories i)

-- The case in which j delivered the value and doesn't list it: the member has the evidence, or its
-- own list doesn't reach that number either.
abbrev pub DeliveredIsNoticed : Type 0
DeliveredIsNoticed =
    (w : Setting) (histories : ℕ → List Event) (i j s : ℕ) (v : List ℕ)
    → Stands w histories → HasFewFaulty w → AllTaken w histories → IsCorrect w j
    → w.faulty i ≡ true → HasHeardAll w histories i
    → delivered_at (group_at w j) (histories j) i s ≡ Some v
    → slice_get (asked_values (histories i)) s ≢ Some v
    → HasForgotten (group_at w i) (histories i)
    ⊎ (length (list_of (group_at w i) (histories i) i) ≤ s)
