-- Numbers and names of faults, as programs print them.
use Rattle.std.specs.Prelude.{ℕ, List, ◌++◌, codes, decimal}
use Rattle.pay_frame.specs.declared.reading.FrameFault.{FrameFault}
use Rattle.pay_frame.specs.declared.reading.FrameFault.TheVariants.{BadLength, BadVersion, BadKind}
use Rattle.pay_frame.specs.declared.reading.FrameFault.TheVariants.{BadValueLength, BadSeq, BadWant}
use Rattle.pay_frame.specs.declared.reading.FrameFault.TheVariants.{Truncated, Trailing}

abbrev pub fault_entry : FrameFault → ℕ × List ℕ
fault_entry BadLength = (1, codes "BadLength")
fault_entry BadVersion = (2, codes "BadVersion")
fault_entry BadKind = (3, codes "BadKind")
fault_entry BadValueLength = (4, codes "BadValueLength")
fault_entry BadSeq = (5, codes "BadSeq")
fault_entry BadWant = (6, codes "BadWant")
fault_entry Truncated = (7, codes "Truncated")
fault_entry Trailing = (8, codes "Trailing")

abbrev pub fault_number : FrameFault → ℕ
fault_number fault = (fault_entry fault).0

abbrev pub name_of : FrameFault → List ℕ
name_of fault = (fault_entry fault).1

abbrev pub frame_fault_words : FrameFault → List ℕ
frame_fault_words fault = decimal (fault_number fault) ++ codes " " ++ name_of fault
