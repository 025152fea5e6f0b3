-- The number and the name that each fault of a file of ports is printed with.
use Rattle.std.specs.Prelude.{ℕ, List, ◌++◌, codes, decimal}
use Rattle.pay_net.specs.declared.ports.PortsFault.{PortsFault}
use Rattle.pay_net.specs.declared.ports.PortsFault.TheVariants.{Memory, BadJson, BadShape}

abbrev pub ports_fault_number : PortsFault → ℕ
ports_fault_number Memory = 0
ports_fault_number BadJson = 1
ports_fault_number BadShape = 2

abbrev pub ports_fault_name : PortsFault → List ℕ
ports_fault_name Memory = codes "Memory"
ports_fault_name BadJson = codes "BadJson"
ports_fault_name BadShape = codes "BadShape"

abbrev pub ports_fault_words : PortsFault → List ℕ
ports_fault_words fault = decimal (ports_fault_number fault) ++ codes " " ++ ports_fault_name fault
