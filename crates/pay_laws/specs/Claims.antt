-- What members claim to have accepted from a member that starts again.
use Rattle.std.specs.Prelude.{◌≡◌, ℕ, ◌≤◌, List, length}
use Rattle.pay_channel.specs.Prefix.{IsPrefix}
use Rattle.pay_channel.specs.History.{out}
use Rattle.pay_channel.specs.Taken.{next}
use Rattle.pay_world.specs.Setting.{Setting, group_at, IsCorrect, HasFewFaulty}
use Rattle.pay_laws.specs.Restarts.{Step, AreFair, history_by_steps}

-- Member p claims, at some moment of these steps, how many bodies it has accepted from member m.
-- Whoever records the claim may play it back later, any number of times.
pub record IsClaimOf (w : Setting) (steps : List Step) (p m taken : ℕ) : Type 0 where
  pub until : List Step
  pub moment : IsPrefix until steps
  pub is : taken ≡ next m (history_by_steps w until p)

-- No claim of a correct member, however old, is of more bodies than the other correct member has
-- sent by now, however often either starts again. So a member that kept its state gets a claim of
-- more only from faulty members.
abbrev pub NoClaimIsBeyond : Type 0
NoClaimIsBeyond =
    (w : Setting) (steps : List Step) (p m taken : ℕ) → HasFewFaulty w → AreFair w steps
    → IsCorrect w p → IsCorrect w m → IsClaimOf w steps p m taken
    → taken ≤ length (out (group_at w m) (history_by_steps w steps m))
