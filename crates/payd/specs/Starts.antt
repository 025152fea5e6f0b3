-- What is said of a node's member if more than `f` others know more of it than it does.
use Rattle.std.specs.Prelude.{ℕ, if◌then◌else◌, nat_eq}
use Rattle.pay_log.specs.declared.fault.LogFault.{LogFault}
use Rattle.pay_log.specs.declared.fault.LogFault.TheVariants.{Forgotten, Known}

-- what a node reports if more than f peers know more than its log, which had this many entries at
-- the start: a log without entries may be that of a folder that was made again
abbrev pub rollback_fault : ℕ → LogFault
rollback_fault entries = if nat_eq entries 0 then Known else Forgotten
