use Rattle.std.proofs.Common.{◌≡◌, length, Some}
use Rattle.pay_text.specs.Words.{joined_words}
use Rattle.pay_desk.specs.Commands.{rest_of_line}
use Rattle.pay_desk.proofs.command.rest_of_line.Given as goal

-- with the words to come it is what all words are
abbrev pub invariant-loop-word : goal.invariant-loop-word
invariant-loop-word l = Some (joined_words l.rest.items l.words) ≡ rest_of_line l.fn.words

abbrev pub decreases-loop-word : goal.decreases-loop-word
decreases-loop-word l = length l.words
