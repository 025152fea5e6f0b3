-- A number for each account, one account after the other.
use Rattle.std.proofs.Common.{◌≡◌, ℕ, ◌+◌, List, [], ◌∷◌, ◌++◌, map, decimal, codes, ap, ◌∙◌, sym, arith}
use Rattle.std.specs.List.{flat_map, range_with_len}
use Rattle.std.proofs.lemmas.List.{append_assoc, append-nil, map-id}
use Rattle.std.proofs.lemmas.List.Concat.{flat_map-append}
use Rattle.std.proofs.lemmas.List.FromFn.{map-range_with_len_more}
use Rattle.pay_sim.specs.Words.{account_number_words}

-- one account more
range_more : (n : ℕ) → range_with_len 0 (n + 1) ≡ range_with_len 0 n ++ n ∷ []
range_more n =
    let same : (m : ℕ) → map (λ (k : ℕ). k) (range_with_len 0 m) ≡ range_with_len 0 m = λ m. map-id (range_with_len 0 m) in
    sym (same (n + 1)) ∙ map-range_with_len_more (λ (k : ℕ). k) 0 n n (omega arith) ∙ ap (λ xs. xs ++ n ∷ []) (same n)

account_words_more : (number_of : ℕ → ℕ) (n : ℕ) → account_number_words number_of (n + 1) ≡ account_number_words number_of n ++ (codes " " ++ decimal (number_of n))
unfolding account_number_words
account_words_more number_of n =
    let word : ℕ → List ℕ = λ a. codes " " ++ decimal (number_of a) in
    ap (flat_map word) (range_more n) ∙ flat_map-append word (range_with_len 0 n) (n ∷ [])
    ∙ ap (λ xs. flat_map word (range_with_len 0 n) ++ xs) (append-nil (word n))

-- the words so far, with those of one account more
pub words_more : (number_of : ℕ → ℕ) (n number : ℕ) (before old blank new : List ℕ)
    → old ≡ before ++ account_number_words number_of n → blank ≡ old ++ codes " " → number ≡ number_of n → new ≡ blank ++ decimal number
    → new ≡ before ++ account_number_words number_of (n + 1)
words_more number_of n number before old blank new so_far blanked told written =
    written ∙ ap (λ xs. xs ++ decimal number) (blanked ∙ ap (λ xs. xs ++ codes " ") so_far)
    ∙ append_assoc (before ++ account_number_words number_of n) (codes " ") (decimal number)
    ∙ ap (λ m. (before ++ account_number_words number_of n) ++ (codes " " ++ decimal m)) told
    ∙ append_assoc before (account_number_words number_of n) (codes " " ++ decimal (number_of n))
    ∙ ap (λ xs. before ++ xs) (sym (account_words_more number_of n))
