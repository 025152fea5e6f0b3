use Rattle.std.proofs.Common.{◌≡◌, ◌++◌, map, take, drop, bit_xor}
use Rattle.pay_hmac.proofs.hmac.xor_with.Given as goal

-- the bytes before the index are done, the others as they were
abbrev pub invariant-loop-byte : goal.invariant-loop-byte
invariant-loop-byte l =
    l.byte-items ≡ map (λ b. bit_xor b l.pad) (take l.byte-index l.fn.block) ++ drop l.byte-index l.fn.block
