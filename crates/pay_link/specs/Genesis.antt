-- What a ledger opens with, and the first fault of what claims to be a genesis.
use Rattle.std.specs.Prelude.{◌≡◌, ℕ, ◌*◌, ◌<◌, ◌≤◌, ◌==◌, ◌||◌, nat_le, nat_lt, List, length, sum}
use Rattle.std.specs.Prelude.{Option, Some, None, if◌then◌else◌}
use Rattle.pay_frame.specs.declared.limits.TheConstants.{MOST_MEMBERS}
use Rattle.pay_link.specs.declared.limits.TheConstants.{GREATEST_TOTAL}
use Rattle.pay_link.specs.declared.genesis.GenesisFault.{GenesisFault}
use Rattle.pay_link.specs.declared.genesis.GenesisFault.TheVariants.{BadCount, BadFaults}
use Rattle.pay_link.specs.declared.genesis.GenesisFault.TheVariants.{BadOpening, BadTotal}

-- how many members there are, how many of them may be faulty, and what each account opens with
pub record GenesisFields : Type 0 where
  pub members : ℕ
  pub faults : ℕ
  pub opening : List ℕ

-- the limits of a genesis
-- page: `IsGenesis`: the limits. N > 3f is the book's bound for Byzantine broadcast (chapter 3)
pub record IsGenesis (g : GenesisFields) : Type 0 where
  pub some : 1 ≤ g.members
  pub few : g.members ≤ MOST_MEMBERS
  pub honest : 3 * g.faults < g.members
  pub opening : length g.opening ≡ g.members
  pub total : sum g.opening ≤ GREATEST_TOTAL

-- the first fault that holds, and none if these are the fields of a genesis
abbrev pub genesis_fault : GenesisFields → Option GenesisFault
genesis_fault g =
    if g.members == 0 || nat_lt MOST_MEMBERS g.members then Some BadCount
    else if nat_le g.members (3 * g.faults) then Some BadFaults
    else if length g.opening == g.members
    then (if nat_le (sum g.opening) GREATEST_TOTAL then None else Some BadTotal)
    else Some BadOpening
