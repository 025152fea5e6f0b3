-- The faults of this crate: the number and the name that each cause is printed with. First, why a
-- file is no export.
use Rattle.std.specs.Prelude.{ℕ, List, ◌++◌, codes, decimal}
use Rattle.pay_audit.specs.declared.exported.ExportFault.{ExportFault}
use Rattle.pay_audit.specs.declared.exported.ExportFault.TheVariants.{Memory, BadJson, BadShape}
use Rattle.pay_audit.specs.declared.exported.ExportFault.TheVariants.{BadGenesis}
use Rattle.pay_audit.specs.declared.replaying.ReplayFault.{ReplayFault}
use Rattle.pay_audit.specs.declared.replaying.ReplayFault.TheVariants as replay

abbrev pub export_fault_number : ExportFault → ℕ
export_fault_number Memory = 0
export_fault_number BadJson = 1
export_fault_number BadShape = 2
export_fault_number BadGenesis = 3

abbrev pub export_fault_name : ExportFault → List ℕ
export_fault_name Memory = codes "Memory"
export_fault_name BadJson = codes "BadJson"
export_fault_name BadShape = codes "BadShape"
export_fault_name BadGenesis = codes "BadGenesis"

abbrev pub export_fault_words : ExportFault → List ℕ
export_fault_words fault =
    decimal (export_fault_number fault) ++ codes " " ++ export_fault_name fault

-- why a history wasn't replayed
abbrev pub replay_fault_number : ReplayFault → ℕ
replay_fault_number replay.Memory = 0
replay_fault_number (replay.Illegal place) = 1

abbrev pub replay_fault_name : ReplayFault → List ℕ
replay_fault_name replay.Memory = codes "Memory"
replay_fault_name (replay.Illegal place) = codes "Illegal"

abbrev pub replay_fault_words : ReplayFault → List ℕ
replay_fault_words fault =
    decimal (replay_fault_number fault) ++ codes " " ++ replay_fault_name fault
