-- A group with some faulty members (Cachin, Guerraoui, Rodrigues, Introduction to Reliable and
-- Secure Distributed Programming, second edition, chapter 2: arbitrary faults, also called
-- Byzantine).
use Rattle.std.specs.Prelude.{◌≡◌, ℕ, ◌*◌, ◌<◌, ◌≤◌, Bool, false, not, ◌&&◌, nat_lt}
use Rattle.pay_echo.specs.Broadcast.{Group, size}
use Rattle.pay_link.specs.Genesis.{GenesisFields}

-- N members, numbered from 0, the bound f of faulty ones, and which members are faulty. A faulty
-- member may say anything, and something else to each member.
pub record Setting : Type 0 where
  pub members : ℕ
  pub faults : ℕ
  pub faulty : ℕ → Bool

-- the group of a genesis, if these members are faulty
abbrev pub setting_by : GenesisFields → (ℕ → Bool) → Setting
setting_by g faulty = record { members = g.members; faults = g.faults; faulty = faulty }

-- the group, as member i sees it
abbrev pub group_at : Setting → ℕ → Group
group_at w i = record { members = w.members; faults = w.faults; own = i }

pub record IsCorrect (w : Setting) (i : ℕ) : Type 0 where
  pub member : i < w.members
  pub honest : w.faulty i ≡ false

-- correctness as a test
abbrev pub is_correct : Setting → ℕ → Bool
is_correct w i = nat_lt i w.members && not (w.faulty i)

-- at most f members are faulty, and N > 3f
pub record HasFewFaulty (w : Setting) : Type 0 where
  pub few : size w.members w.faulty ≤ w.faults
  pub many : 3 * w.faults < w.members
