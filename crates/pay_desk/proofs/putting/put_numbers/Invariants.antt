use Rattle.std.proofs.Common.{◌≡◌, ◌+◌, ◌*◌, ◌++◌, ◌≤◌, drop, vec_capacity, vec_len}
use Rattle.pay_desk.specs.Words.{number_words}
use Rattle.pay_desk.specs.declared.putting.TheConstants.{MOST_NUMBER}
use Rattle.pay_desk.proofs.putting.put_numbers.Given as goal

-- with the words of the numbers to come it is the whole text, for which there is room
pub record Puts (l : goal.Live-loop-number) : Type 0 where
  pub items :
      l.out.items ++ number_words (drop l.number-index l.numbers) ≡ l.fn.out.items ++ number_words l.numbers
  pub len : vec_len l.out ≤ vec_len l.fn.out + MOST_NUMBER * l.number-index
  pub capacity : vec_capacity l.fn.out ≤ vec_capacity l.out

abbrev pub invariant-loop-number : goal.invariant-loop-number
invariant-loop-number l = Puts l
