use Rattle.std.proofs.Common.{◌≡◌, ◌≤◌, ◌++◌, length}
use Rattle.std.specs.Prelude.{option_map}
use Rattle.pay_text.specs.Pairs.{pairs_of_words}
use Rattle.pay_text.proofs.words.read_pairs.Given as goal

-- with the pairs of the words to come they are those of all words
abbrev pub invariant-loop-words : goal.invariant-loop-words
invariant-loop-words l =
    record {
      all : pairs_of_words l.fn.words ≡ option_map (λ more. l.pairs.items ++ more) (pairs_of_words l.words);
      few : length l.pairs.items ≤ l.most;
    }

abbrev pub decreases-loop-words : goal.decreases-loop-words
decreases-loop-words l = length l.words
