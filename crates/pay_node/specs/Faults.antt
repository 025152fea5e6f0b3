-- The number and the name that each fault of the shutdown check is printed with.
use Rattle.std.specs.Prelude.{ℕ, List, ◌++◌, codes, decimal}
use Rattle.pay_node.specs.declared.closing.CloseFault.{CloseFault}
use Rattle.pay_node.specs.declared.closing.CloseFault.TheVariants.{Memory, Mismatch}

abbrev pub close_fault_number : CloseFault → ℕ
close_fault_number (Memory uncounted) = 0
close_fault_number (Mismatch stamp) = 1

abbrev pub close_fault_name : CloseFault → List ℕ
close_fault_name (Memory uncounted) = codes "Memory"
close_fault_name (Mismatch stamp) = codes "Mismatch"

abbrev pub close_fault_words : CloseFault → List ℕ
close_fault_words fault = decimal (close_fault_number fault) ++ codes " " ++ close_fault_name fault
