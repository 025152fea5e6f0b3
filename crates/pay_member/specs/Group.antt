-- The group of a genesis, as one of its members sees it.
use Rattle.std.specs.Prelude.{ℕ}
use Rattle.pay_echo.specs.Broadcast.{Group}
use Rattle.pay_link.specs.Genesis.{GenesisFields}

abbrev pub group_in : GenesisFields → ℕ → Group
group_in g own = record { members = g.members; faults = g.faults; own = own }
