use Rattle.std.proofs.Common.{◌≡◌, ◌∙◌, ◌<◌, ◌++◌, ◌∷◌, [], ℕ, List, length, sym, subst, arith, rules}
use Rattle.std.specs.Prelude.{option_map}
use Rattle.pay_text.specs.Pairs.{pairs_of_words}
use Rattle.pay_text.proofs.Pairing.{at_end, fewer, no_pair, none_within, read_on, some_within, too_many}
use Rattle.pay_text.proofs.words.read_pairs.Goals as goal

pub returns-in_default-clause-pairs : goal.returns-in_default-clause-pairs
returns-in_default-clause-pairs c =
    sym (no_pair c.args.most c.args.words.now c.loop-words.words c.loop-words.pairs.items c.loop-words.invariant.all
    (search rules) (sym c.next_pair.ensures.pair ∙ c.in_default.is))

pub returns-then-len-most-clause-pairs : goal.returns-then-len-most-clause-pairs
returns-then-len-most-clause-pairs c =
    sym (too_many c.args.most c.args.words.now c.loop-words.words c.loop-words.pairs.items c.in-Some.pair c.loop-words.invariant.all
    (sym c.next_pair.ensures.pair ∙ c.in-Some.is) (search rules))

pub loop-words-preserved : goal.loop-words-preserved
loop-words-preserved c = record {
  all =
      let all = c.args.words.now in
      let more : List (ℕ × ℕ) = c.loop-words.pairs.items ++ c.in-Some.pair ∷ [] in
      subst (λ (items : List (ℕ × ℕ)). pairs_of_words all ≡ option_map (λ rest. items ++ rest) (pairs_of_words c.next_pair.new.words))
      (sym c.in_ok-push.ensures.items)
      (subst (λ (words : List (List ℕ)). pairs_of_words all ≡ option_map (λ rest. more ++ rest) (pairs_of_words words))
      (sym c.next_pair.ensures.rest)
      (read_on all c.loop-words.words c.loop-words.pairs.items c.in-Some.pair c.loop-words.invariant.all
      (sym c.next_pair.ensures.pair ∙ c.in-Some.is)));
  few = let few = c.loop-words.invariant.few in grind arith;
}

pub loop-words-smaller : goal.loop-words-smaller
loop-words-smaller c = subst (λ (words : List (List ℕ)). length words < length c.loop-words.words) (sym c.next_pair.ensures.rest) (fewer c.loop-words.words (search rules))

pub returns-then-is_empty-clause-pairs : goal.returns-then-is_empty-clause-pairs
returns-then-is_empty-clause-pairs c =
    sym (at_end c.args.most c.args.words.now c.loop-words.words c.loop-words.pairs.items c.loop-words.invariant.all (search rules)
    ∙ none_within c.args.most c.loop-words.pairs.items (search rules))

pub returns-clause-pairs : goal.returns-clause-pairs
returns-clause-pairs c =
    sym (at_end c.args.most c.args.words.now c.loop-words.words c.loop-words.pairs.items c.loop-words.invariant.all (search rules)
    ∙ some_within c.args.most c.loop-words.pairs.items (search rules) c.loop-words.invariant.few)
