use Rattle.std.proofs.Common.{◌≡◌, min, sum_by, take}
use Rattle.payd.specs.Files.{memory_of_byte}
use Rattle.payd.proofs.files.memory_of.Given as goal

-- the sum of those so far
abbrev pub invariant-loop-byte : goal.invariant-loop-byte
invariant-loop-byte l =
    l.sum ≡ min (sum_by memory_of_byte (take l.byte-index l.bytes)) 18446744073709551615
