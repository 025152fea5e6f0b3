-- The number and the name that each fault is printed with.
use Rattle.std.specs.Prelude.{ℕ, List, ◌++◌, codes, decimal}
use Rattle.pay_world.specs.declared.liars.LiarFault.{LiarFault}
use Rattle.pay_world.specs.declared.liars.LiarFault.TheVariants as liar
use Rattle.pay_world.specs.declared.event.WorldFault.{WorldFault}
use Rattle.pay_world.specs.declared.event.WorldFault.TheVariants as world

abbrev pub liar_fault_entry : LiarFault → ℕ × List ℕ
liar_fault_entry liar.Memory = (0, codes "Memory")
liar_fault_entry liar.Unknown = (1, codes "Unknown")
liar_fault_entry liar.Twice = (2, codes "Twice")
liar_fault_entry liar.TooMany = (3, codes "TooMany")

abbrev pub liar_fault_number : LiarFault → ℕ
liar_fault_number fault = (liar_fault_entry fault).0

abbrev pub liar_fault_name : LiarFault → List ℕ
liar_fault_name fault = (liar_fault_entry fault).1

abbrev pub liar_fault_words : LiarFault → List ℕ
liar_fault_words fault = decimal (liar_fault_number fault) ++ codes " " ++ liar_fault_name fault

abbrev pub world_fault_entry : WorldFault → ℕ × List ℕ
world_fault_entry world.Memory = (0, codes "Memory")
world_fault_entry (world.Forged k) = (1, codes "Forged")

abbrev pub world_fault_number : WorldFault → ℕ
world_fault_number fault = (world_fault_entry fault).0

abbrev pub world_fault_name : WorldFault → List ℕ
world_fault_name fault = (world_fault_entry fault).1

abbrev pub world_fault_words : WorldFault → List ℕ
world_fault_words fault =
    decimal (world_fault_number fault) ++ codes " " ++ world_fault_name fault
