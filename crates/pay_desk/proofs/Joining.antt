-- Words that are put together again, one after the other.
use Rattle.std.proofs.Common.{◌≡◌, ℕ, ◌<◌, List, [], ◌∷◌, ◌++◌, append_assoc, drop, length, refl, ◌∙◌, ap, arith, Some, None}
use Rattle.pay_text.specs.Words.{blank, first_word, joined_words}
use Rattle.pay_desk.specs.Commands.{rest_of_line}

onto : (a b : List ℕ) (words : List (List ℕ)) → joined_words (a ++ b) words ≡ a ++ joined_words b words
unfolding joined_words
onto a b [] = refl
onto a b (next ∷ words) = append_assoc a b (blank ∷ joined_words next words)

pub one_word : (words : List (List ℕ)) (word : List ℕ) → Some word ≡ first_word words → Some (joined_words word (drop 1 words)) ≡ rest_of_line words
one_word [] word is = absurd (cc)
one_word (w ∷ words) word is = cc

-- a word more is put behind those that were
pub next_word : (words : List (List ℕ)) (rest word : List ℕ) → Some word ≡ first_word words
    → joined_words ((rest ++ blank ∷ []) ++ word) (drop 1 words) ≡ joined_words rest words
unfolding joined_words
next_word [] rest word is = absurd (cc)
next_word (w ∷ words) rest word is =
    let same : word ≡ w = cc in
    onto (rest ++ blank ∷ []) word words ∙ append_assoc rest (blank ∷ []) (joined_words word words)
    ∙ ap (λ (x : List ℕ). rest ++ blank ∷ joined_words x words) same

pub no_word : (words : List (List ℕ)) (rest : List ℕ) → None ≡ first_word words → joined_words rest words ≡ rest
unfolding joined_words
no_word [] rest is = refl
no_word (w ∷ words) rest is = absurd (cc)

pub fewer : (words : List (List ℕ)) (word : List ℕ) → Some word ≡ first_word words → length (drop 1 words) < length words
fewer [] word is = absurd (cc)
fewer (w ∷ words) word is = omega arith
