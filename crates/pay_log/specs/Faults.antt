-- The numbers and names of faults, and their words.
use Rattle.std.specs.Prelude.{ℕ, List, [], ◌++◌, Bool, true, false, codes, decimal}
use Rattle.std.specs.declared.io.ErrorKind.{ErrorKind}
use Rattle.std.specs.declared.io.ErrorKind.TheVariants as kind
use Rattle.pay_log.specs.declared.device.DeviceFault.{DeviceFault}
use Rattle.pay_log.specs.declared.device.DeviceFault.TheVariants as device
use Rattle.pay_log.specs.declared.fault.LogFault.{LogFault}
use Rattle.pay_log.specs.declared.fault.LogFault.TheVariants.{Memory, Disk, Held, Foreign, Damaged}
use Rattle.pay_log.specs.declared.fault.LogFault.TheVariants.{Illegal, Changed, Forgotten, Missing}
use Rattle.pay_log.specs.declared.fault.LogFault.TheVariants.{Exists, Blocked, Unnamed, Known}
use Rattle.pay_log.specs.declared.header.Mismatch.{Mismatch}
use Rattle.pay_log.specs.declared.header.Mismatch.TheVariants.{NoLog, Version, Genesis, Member}
use Rattle.pay_log.specs.declared.header.Mismatch.TheVariants.{Keys}
use Rattle.pay_log.specs.declared.obstacle.LogPart.{LogPart}
use Rattle.pay_log.specs.declared.obstacle.LogPart.TheVariants as part
use Rattle.pay_log.specs.declared.obstacle.Obstacle.{Obstacle}
use Rattle.pay_log.specs.declared.obstacle.Obstacle.TheVariants as obstacle
use Rattle.pay_log.specs.declared.reading.Refused.{Refused}
use Rattle.pay_log.specs.declared.reading.Refused.TheVariants as sink

abbrev pub log_fault_number : LogFault → ℕ
log_fault_number Memory = 0
log_fault_number (Disk kind) = 1
log_fault_number Held = 2
log_fault_number (Foreign part) = 3
log_fault_number (Damaged number) = 4
log_fault_number (Illegal number) = 5
log_fault_number Changed = 6
log_fault_number Forgotten = 7
log_fault_number Missing = 8
log_fault_number Exists = 9
log_fault_number (Blocked part obstacle) = 10
log_fault_number Unnamed = 11
log_fault_number Known = 12

abbrev pub log_fault_name : LogFault → List ℕ
log_fault_name Memory = codes "Memory"
log_fault_name (Disk kind) = codes "Disk"
log_fault_name Held = codes "Held"
log_fault_name (Foreign part) = codes "Foreign"
log_fault_name (Damaged number) = codes "Damaged"
log_fault_name (Illegal number) = codes "Illegal"
log_fault_name Changed = codes "Changed"
log_fault_name Forgotten = codes "Forgotten"
log_fault_name Missing = codes "Missing"
log_fault_name Exists = codes "Exists"
log_fault_name (Blocked part obstacle) = codes "Blocked"
log_fault_name Unnamed = codes "Unnamed"
log_fault_name Known = codes "Known"

abbrev pub mismatch_name : Mismatch → List ℕ
mismatch_name NoLog = codes "NoLog"
mismatch_name Version = codes "Version"
mismatch_name Genesis = codes "Genesis"
mismatch_name Member = codes "Member"
mismatch_name Keys = codes "Keys"

-- the names that a log's files have in a member's folder
abbrev pub part_name : LogPart → List ℕ
part_name part.Log = codes "log"
part_name part.NewLog = codes "log.new"
part_name part.Dropped = codes "log.dropped"
part_name part.Ended = codes "ended"
part_name part.NewEnded = codes "ended.new"

abbrev pub obstacle_name : Obstacle → List ℕ
obstacle_name obstacle.Link = codes "link"
obstacle_name obstacle.Folder = codes "folder"
obstacle_name obstacle.Socket = codes "socket"
obstacle_name obstacle.Pipe = codes "pipe"
obstacle_name obstacle.Device = codes "device"

-- what is printed after a fault's name: which part differs, the number of a record block or a
-- record, or which name belongs to something else
abbrev pub log_fault_place : LogFault → List ℕ
log_fault_place (Foreign part) = codes " " ++ mismatch_name part
log_fault_place (Damaged number) = codes " " ++ decimal number
log_fault_place (Illegal number) = codes " " ++ decimal number
log_fault_place (Blocked part obstacle) =
    codes " " ++ part_name part ++ codes " " ++ obstacle_name obstacle
log_fault_place _ = []

-- a fault in its printed form
abbrev pub log_fault_words : LogFault → List ℕ
log_fault_words fault =
    decimal (log_fault_number fault) ++ codes " " ++ log_fault_name fault ++ log_fault_place fault

-- the two reasons for which the system has nothing at a name: it isn't there, or its folder isn't
abbrev pub is_missing : ErrorKind → Bool
is_missing kind.NotFound = true
is_missing kind.NotADirectory = true
is_missing _ = false

abbrev pub fault_of_device : DeviceFault → LogFault
fault_of_device device.Memory = Memory
fault_of_device (device.Disk kind) = Disk kind

abbrev pub fault_of_sink : Refused → LogFault
fault_of_sink sink.Memory = Memory
fault_of_sink (sink.Disk kind) = Disk kind
fault_of_sink (sink.Record number) = Illegal number

-- what the reading of a log may end with
abbrev pub IsReadFault : LogFault → Type 0
IsReadFault Memory = Unit {0}
IsReadFault (Disk kind) = Unit {0}
IsReadFault Held = ⊥
IsReadFault (Foreign part) = Unit {0}
IsReadFault (Damaged number) = Unit {0}
IsReadFault (Illegal number) = Unit {0}
IsReadFault Changed = ⊥
IsReadFault Forgotten = ⊥
IsReadFault Missing = ⊥
IsReadFault Exists = ⊥
IsReadFault (Blocked part obstacle) = ⊥
IsReadFault Unnamed = ⊥
IsReadFault Known = ⊥
