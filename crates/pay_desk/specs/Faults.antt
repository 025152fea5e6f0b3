-- The numbers and names of a desk's refusals.
use Rattle.std.specs.Prelude.{ℕ, List, ◌++◌, codes, decimal}
use Rattle.pay_desk.specs.declared.fault.DeskFault.{DeskFault}
use Rattle.pay_desk.specs.declared.fault.DeskFault.TheVariants.{Memory, BadLine, NoAccount}
use Rattle.pay_desk.specs.declared.fault.DeskFault.TheVariants.{ZeroOrSelf, IdUsed, Spent, TooEarly}
use Rattle.pay_desk.specs.declared.fault.DeskFault.TheVariants.{Forgotten}
use Rattle.pay_desk.specs.declared.fault.TellerFault.{TellerFault}
use Rattle.pay_desk.specs.declared.fault.TellerFault.TheVariants as teller

abbrev pub desk_fault_number : DeskFault → ℕ
desk_fault_number Memory = 0
desk_fault_number BadLine = 1
desk_fault_number NoAccount = 2
desk_fault_number ZeroOrSelf = 3
desk_fault_number IdUsed = 4
desk_fault_number Spent = 5
desk_fault_number TooEarly = 6
desk_fault_number Forgotten = 7

abbrev pub desk_fault_name : DeskFault → List ℕ
desk_fault_name Memory = codes "Memory"
desk_fault_name BadLine = codes "BadLine"
desk_fault_name NoAccount = codes "NoAccount"
desk_fault_name ZeroOrSelf = codes "ZeroOrSelf"
desk_fault_name IdUsed = codes "IdUsed"
desk_fault_name Spent = codes "Spent"
desk_fault_name TooEarly = codes "TooEarly"
desk_fault_name Forgotten = codes "Forgotten"

abbrev pub desk_fault_words : DeskFault → List ℕ
desk_fault_words fault = decimal (desk_fault_number fault) ++ codes " " ++ desk_fault_name fault

-- what a desk answers if its teller refuses
abbrev pub desk_fault_of : TellerFault → DeskFault
desk_fault_of teller.Memory = Memory
desk_fault_of teller.Spent = Spent
desk_fault_of teller.TooEarly = TooEarly
desk_fault_of teller.Forgotten = Forgotten
