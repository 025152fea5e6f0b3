-- Reading words two by two.
use Rattle.std.proofs.Common.{◌≡◌, ℕ, ◌<◌, ◌≤◌, true, false, List, [], ◌∷◌, ◌++◌, length, drop, refl, ap, ◌∙◌, sym, arith, append-nil, append_assoc, Bool}
use Rattle.std.specs.Prelude.{◌&&◌, nat_le, Option, Some, None, option_and_then, option_map}
use Rattle.std.proofs.lemmas.Bool.{and_from, cond-true, cond-false, lt-ltb, le-leb}
use Rattle.std.proofs.lemmas.Bool.Decides.{nat_tests}
use Rattle.std.proofs.lemmas.List.{length-append}
use Rattle.pay_text.specs.Pairs.{first_pair, pairs_of_words, if_within, pairs_within}
use Rattle.pay_text.specs.Words.{is_none}

abbrev Pairs : Type 0
Pairs = List (ℕ × ℕ)

-- no words are no pairs
pub pairs_of_words-done : (words : List (List ℕ)) → is_none words ≡ true → pairs_of_words words ≡ Some []
unfolding pairs_of_words
pairs_of_words-done [] done = refl
pairs_of_words-done (word ∷ words) done = absurd (let bad : false ≡ true = done in cc)

-- words begin with their first pair
pub pairs_of_words-next : (words : List (List ℕ)) (p : ℕ × ℕ) → first_pair words ≡ Some p → pairs_of_words words ≡ option_map (λ (more : Pairs). p ∷ more) (pairs_of_words (drop 2 words))
unfolding pairs_of_words
pairs_of_words-next [] p first = absurd (let bad : None ≡ Some p = first in cc)
pairs_of_words-next (word ∷ []) p first = absurd (let bad : None ≡ Some p = first in cc)
pairs_of_words-next (word ∷ next ∷ words) p first =
    ap (option_and_then (λ pair. option_map (λ (more : Pairs). pair ∷ more) (pairs_of_words words))) first

pub pairs_of_words-none : (words : List (List ℕ)) → is_none words ≡ false → first_pair words ≡ None → pairs_of_words words ≡ None
unfolding pairs_of_words
pairs_of_words-none [] some none = absurd (let bad : true ≡ false = some in cc)
pairs_of_words-none (word ∷ []) some none = refl
pairs_of_words-none (word ∷ next ∷ words) some none =
    ap (option_and_then (λ pair. option_map (λ (more : Pairs). pair ∷ more) (pairs_of_words words))) none

pub fewer : (words : List (List ℕ)) → is_none words ≡ false → length (drop 2 words) < length words
fewer [] some = absurd (let bad : true ≡ false = some in cc)
fewer (word ∷ []) some = omega arith
fewer (word ∷ next ∷ words) some = omega arith

-- a pair more was read
one_more : (so_far : Pairs) (p : ℕ × ℕ) (rest : Option Pairs)
    → option_map (λ (more : Pairs). so_far ++ more) (option_map (λ (more : Pairs). p ∷ more) rest) ≡ option_map (λ (more : Pairs). (so_far ++ p ∷ []) ++ more) rest
one_more so_far p None = refl
one_more so_far p (Some more) = ap Some (sym (append_assoc so_far (p ∷ []) more))

pub read_on : (all words : List (List ℕ)) (so_far : Pairs) (p : ℕ × ℕ)
    → pairs_of_words all ≡ option_map (λ (more : Pairs). so_far ++ more) (pairs_of_words words) → first_pair words ≡ Some p
    → pairs_of_words all ≡ option_map (λ (more : Pairs). (so_far ++ p ∷ []) ++ more) (pairs_of_words (drop 2 words))
read_on all words so_far p known first =
    known ∙ ap (option_map (λ (more : Pairs). so_far ++ more)) (pairs_of_words-next words p first)
    ∙ one_more so_far p (pairs_of_words (drop 2 words))

-- the ends of reading
pub no_pair : (most : ℕ) (all words : List (List ℕ)) (so_far : Pairs)
    → pairs_of_words all ≡ option_map (λ (more : Pairs). so_far ++ more) (pairs_of_words words) → is_none words ≡ false → first_pair words ≡ None
    → pairs_within most all ≡ None
unfolding pairs_within
no_pair most all words so_far known some none =
    ap (option_and_then (if_within most)) (known ∙ ap (option_map (λ (more : Pairs). so_far ++ more)) (pairs_of_words-none words some none))

both_false : (x y : Bool) → y ≡ false → (x && y) ≡ false
both_false true y e = e
both_false false y e = refl

over_most : (most : ℕ) (pairs : Pairs) → most < length pairs → if_within most pairs ≡ None
over_most most pairs over =
    let more : nat_le (length pairs) most ≡ false = grind (arith, nat_tests) in
    cond-false _ _ _ (both_false _ _ more)

too_long : (most : ℕ) (so_far : Pairs) (p : ℕ × ℕ) (rest : Option Pairs) → most ≤ length so_far
    → option_and_then (if_within most) (option_map (λ (more : Pairs). (so_far ++ p ∷ []) ++ more) rest) ≡ None
too_long most so_far p None long = refl
too_long most so_far p (Some more) long =
    let here = length-append so_far (p ∷ []) in
    let whole = length-append (so_far ++ p ∷ []) more in
    over_most most ((so_far ++ p ∷ []) ++ more) (omega arith)

pub too_many : (most : ℕ) (all words : List (List ℕ)) (so_far : Pairs) (p : ℕ × ℕ)
    → pairs_of_words all ≡ option_map (λ (more : Pairs). so_far ++ more) (pairs_of_words words) → first_pair words ≡ Some p → length so_far ≡ most
    → pairs_within most all ≡ None
unfolding pairs_within
too_many most all words so_far p known first full =
    ap (option_and_then (if_within most)) (read_on all words so_far p known first)
    ∙ too_long most so_far p (pairs_of_words (drop 2 words)) (omega arith)

pub at_end : (most : ℕ) (all words : List (List ℕ)) (so_far : Pairs)
    → pairs_of_words all ≡ option_map (λ (more : Pairs). so_far ++ more) (pairs_of_words words) → is_none words ≡ true
    → pairs_within most all ≡ if_within most so_far
unfolding pairs_within
at_end most all words so_far known done =
    ap (option_and_then (if_within most))
    (known ∙ ap (option_map (λ (more : Pairs). so_far ++ more)) (pairs_of_words-done words done) ∙ ap Some (append-nil so_far))

pub some_within : (most : ℕ) (pairs : Pairs) → 0 < length pairs → length pairs ≤ most → if_within most pairs ≡ Some pairs
some_within most pairs some few =
    cond-true _ _ _ (and_from _ _ (lt-ltb 0 (length pairs) some) (le-leb (length pairs) most few))

pub none_within : (most : ℕ) (pairs : Pairs) → length pairs ≡ 0 → if_within most pairs ≡ None
none_within most [] none = refl
none_within most (p ∷ pairs) none = absurd (omega arith)
