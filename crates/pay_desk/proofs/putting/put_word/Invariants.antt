use Rattle.std.proofs.Common.{◌≡◌, ◌+◌, ◌++◌, ◌≤◌, drop, vec_capacity, vec_len}
use Rattle.pay_desk.proofs.putting.put_word.Given as goal

-- with the bytes to come it is the whole text, for which there is room
pub record Puts (l : goal.Live-loop-byte) : Type 0 where
  pub items : l.out.items ++ drop l.byte-index l.byte-items ≡ l.fn.out.items ++ l.byte-items
  pub len : vec_len l.out ≡ vec_len l.fn.out + l.byte-index
  pub capacity : vec_capacity l.fn.out ≤ vec_capacity l.out
  pub word : l.byte-items ≡ l.word

abbrev pub invariant-loop-byte : goal.invariant-loop-byte
invariant-loop-byte l = Puts l
