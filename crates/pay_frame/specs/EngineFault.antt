-- Numbers and names of the faults of loops, as programs print them.
use Rattle.std.specs.Prelude.{ℕ, List, ◌++◌, codes, decimal}
use Rattle.pay_frame.specs.declared.engine.EngineFault.{EngineFault}
use Rattle.pay_frame.specs.declared.engine.EngineFault.TheVariants.{Memory, Frame, Read, Write}
use Rattle.pay_frame.specs.declared.engine.EngineFault.TheVariants.{Bound}
use Rattle.pay_frame.specs.declared.device.StreamFault.{StreamFault}
use Rattle.pay_frame.specs.declared.device.StreamFault.TheVariants as stream

abbrev pub engine_entry : EngineFault → ℕ × List ℕ
engine_entry Memory = (0, codes "Memory")
engine_entry (Frame fault) = (1, codes "Frame")
engine_entry Read = (2, codes "Read")
engine_entry Write = (3, codes "Write")
engine_entry Bound = (4, codes "Bound")

abbrev pub engine_number : EngineFault → ℕ
engine_number fault = (engine_entry fault).0

abbrev pub engine_name : EngineFault → List ℕ
engine_name fault = (engine_entry fault).1

abbrev pub engine_words : EngineFault → List ℕ
engine_words fault = decimal (engine_number fault) ++ codes " " ++ engine_name fault

-- the fault of a loop that a fault of a device becomes
abbrev pub engine_of : StreamFault → EngineFault
engine_of stream.Memory = Memory
engine_of stream.Read = Read
engine_of stream.Write = Write
engine_of stream.Bound = Bound
