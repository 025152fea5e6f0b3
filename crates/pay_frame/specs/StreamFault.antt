-- Numbers and names of the faults of devices, as programs print them.
use Rattle.std.specs.Prelude.{ℕ, List, ◌++◌, codes, decimal}
use Rattle.pay_frame.specs.declared.device.StreamFault.{StreamFault}
use Rattle.pay_frame.specs.declared.device.StreamFault.TheVariants.{Memory, Read, Write, Bound}

abbrev pub stream_entry : StreamFault → ℕ × List ℕ
stream_entry Memory = (0, codes "Memory")
stream_entry Read = (2, codes "Read")
stream_entry Write = (3, codes "Write")
stream_entry Bound = (4, codes "Bound")

abbrev pub stream_number : StreamFault → ℕ
stream_number fault = (stream_entry fault).0

abbrev pub stream_name : StreamFault → List ℕ
stream_name fault = (stream_entry fault).1

abbrev pub stream_words : StreamFault → List ℕ
stream_words fault = decimal (stream_number fault) ++ codes " " ++ stream_name fault
