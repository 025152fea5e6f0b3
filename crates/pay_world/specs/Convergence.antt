-- The moment at which nothing is in flight between correct members, or from them to another member.
use Rattle.std.specs.Prelude.{◌≡◌, ◌≢◌, ℕ, List, length}
use Rattle.pay_channel.specs.History.{Event, out}
use Rattle.pay_channel.specs.Taken.{taken_bodies, next}
use Rattle.pay_world.specs.Setting.{Setting, group_at, IsCorrect}

-- Member i accepted all that member j sent, if these are two members and both are correct.
abbrev pub HasTaken : Setting → (ℕ → List Event) → ℕ → ℕ → Type 0
HasTaken w histories i j =
    IsCorrect w i → IsCorrect w j → i ≢ j
    → next j (histories i) ≡ length (out (group_at w j) (histories j))

-- Each correct member accepted all that each other correct member sent.
pub record AllTaken (w : Setting) (histories : ℕ → List Event) : Type 0 where
  pub each : (i j : ℕ) → HasTaken w histories i j

-- Member i, which may be faulty, accepted all that each correct member sent, as it was sent.
abbrev pub HasHeardAll : Setting → (ℕ → List Event) → ℕ → Type 0
HasHeardAll w histories i =
    (k : ℕ) → IsCorrect w k
    → taken_bodies k (histories i) ≡ out (group_at w k) (histories k)
