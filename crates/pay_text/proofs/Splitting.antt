-- Words of a line, by the place of its first blank.
use Rattle.std.proofs.Common.{◌≡◌, ℕ, suc, ◌+◌, ◌<◌, ◌≤◌, List, [], ◌∷◌, ◌++◌, length, take, drop, refl, ◌∙◌, ap, subst, arith, true, false, Some, None, Bool, ◌-◌, length-drop}
use Rattle.std.specs.Prelude.{◌==◌, cond, not, nat_lt}
use Rattle.std.specs.List.{position, position_or_len}
use Rattle.std.proofs.lemmas.Bool.Decides.{Decides-ltb}
use Rattle.std.proofs.lemmas.List.{take_all}
use Rattle.pay_text.specs.Words.{AreWords, IsWord, blank, onto_first, words_of, joined_words, is_none}

-- how many bytes stand before the first blank
abbrev pub before_blank : List ℕ → ℕ
before_blank line = position_or_len (λ b. b == blank) line

front_of : (e : Bool) (x n : ℕ) (xs : List ℕ) → (n < length xs → words_of xs ≡ take n xs ∷ words_of (drop (n + 1) xs)) → cond (not e) (1 + n) 0 < suc (length xs)
    → cond e ([] ∷ words_of xs) (onto_first x (words_of xs)) ≡ take (cond (not e) (1 + n) 0) (x ∷ xs) ∷ words_of (drop (cond (not e) (1 + n) 0 + 1) (x ∷ xs))
front_of true x n xs rest lt = refl
front_of false x n xs rest lt =
    let one : 1 + n ≡ suc n = omega arith in
    let two : 1 + n + 1 ≡ suc (n + 1) = omega arith in
    rw (rest (omega arith), two, one) refl

pub first_word_is : (line : List ℕ) → before_blank line < length line → words_of line ≡ take (before_blank line) line ∷ words_of (drop (before_blank line + 1) line)
unfolding words_of
first_word_is [] lt = absurd (omega arith)
first_word_is (x ∷ xs) lt = front_of (x == blank) x (before_blank xs) xs (first_word_is xs) lt

all_of : (e : Bool) (x n : ℕ) (xs : List ℕ) → (length xs ≤ n → words_of xs ≡ xs ∷ []) → suc (length xs) ≤ cond (not e) (1 + n) 0 → cond e ([] ∷ words_of xs) (onto_first x (words_of xs)) ≡ (x ∷ xs) ∷ []
all_of true x n xs rest le = absurd (omega arith)
all_of false x n xs rest le = rw (rest (omega arith)) refl

pub only_word_is : (line : List ℕ) → length line ≤ before_blank line → words_of line ≡ line ∷ []
unfolding words_of
only_word_is [] le = refl
only_word_is (x ∷ xs) le = all_of (x == blank) x (before_blank xs) xs (only_word_is xs) le

found_at : (b : Bool) (p at : ℕ) → cond b (Some p) None ≡ Some at → (b ≡ true) × (p ≡ at)
found_at true p at e = (refl, cc)
found_at false p at e = absurd (cc)

not_found : (b : Bool) (p : ℕ) → cond b (Some p) None ≡ None → b ≡ false
not_found true p e = absurd (cc)
not_found false p e = refl

pub words_at_blank : (line : List ℕ) (at : ℕ) → position (λ b. b == blank) line ≡ Some at → words_of line ≡ take at line ∷ words_of (drop (at + 1) line)
words_at_blank line at found =
    let (below, is) = found_at (nat_lt (before_blank line) (length line)) (before_blank line) at found in
    subst (λ (k : ℕ). words_of line ≡ take k line ∷ words_of (drop (k + 1) line)) is (first_word_is line ((Decides-ltb (before_blank line) (length line)).0 below))

not_below : (a b : ℕ) → nat_lt a b ≡ false → b ≤ a
not_below a b no_less = let h : ¬ (a < b) = λ lt. let is = (Decides-ltb a b).1 lt in absurd cc in omega arith

pub words_without_blank : (line : List ℕ) → position (λ b. b == blank) line ≡ None → words_of line ≡ line ∷ []
words_without_blank line found =
    let is = not_found (nat_lt (before_blank line) (length line)) (before_blank line) found in
    only_word_is line (not_below (before_blank line) (length line) is)

-- the rest of a slice, as code takes it
pub rest_of : (line : List ℕ) (k : ℕ) → take (length line - k) (drop k line) ≡ drop k line
rest_of line k = take_all (length line - k) (drop k line) (omega (arith, length-drop k line))

-- ---- words that are joined

pub one_word : (word : List ℕ) → IsWord word → words_of word ≡ word ∷ []
unfolding words_of
one_word [] is = refl
one_word (b ∷ bytes) (first, is) = rw (first, one_word bytes is) refl

pub word_then : (word rest : List ℕ) → IsWord word → words_of (word ++ blank ∷ rest) ≡ word ∷ words_of rest
unfolding words_of
word_then [] rest is = refl
word_then (b ∷ bytes) rest (first, is) = rw (first, word_then bytes rest is) refl

pub words_joined : (word : List ℕ) (words : List (List ℕ)) → IsWord word → AreWords words → words_of (joined_words word words) ≡ word ∷ words
unfolding joined_words
words_joined word [] is all = one_word word is
words_joined word (next ∷ words) is (first, all) = word_then word (joined_words next words) is ∙ ap (λ (ws : List (List ℕ)). word ∷ ws) (words_joined next words first all)

-- ---- some word is always there

onto_some : (x : ℕ) (words : List (List ℕ)) → is_none (onto_first x words) ≡ false
onto_some x [] = refl
onto_some x (word ∷ words) = refl

some_of : (e : Bool) (x : ℕ) (xs : List ℕ) → is_none (cond e ([] ∷ words_of xs) (onto_first x (words_of xs))) ≡ false
some_of true x xs = refl
some_of false x xs = onto_some x (words_of xs)

pub some_word : (line : List ℕ) → is_none (words_of line) ≡ false
unfolding words_of
some_word [] = refl
some_word (x ∷ xs) = some_of (x == blank) x xs
