-- Numbers that are all short, or of which one isn't.
use Rattle.std.proofs.Common.{◌≡◌, ℕ, suc, zero, ◌<◌, ◌≤◌, ◌^◌, Bool, true, false, ◌&&◌, ltb, cond, List, [], ◌∷◌, length, get_or, take, Some, None, refl, sym, ap, ◌∙◌, arith, rules, tests}
use Rattle.std.specs.List.{list_all}
use Rattle.pay_sim.specs.Group.{numbers_if_short}

and_false : (b : Bool) → b && false ≡ false
and_false true = refl
and_false false = refl

one_fails : (p : ℕ → Bool) (xs : List ℕ) (i : ℕ) → i < length xs → p (get_or xs i 0) ≡ false → list_all p xs ≡ false
one_fails p [] i less fails = absurd (omega arith)
one_fails p (x ∷ xs) zero less fails = ap (λ b. b && list_all p xs) fails
one_fails p (x ∷ xs) (suc i) less fails = ap (λ b. p x && b) (one_fails p xs i (omega arith) fails) ∙ and_false (p x)

at_least : (x y : ℕ) → (x < y → ⊥) → ltb x y ≡ false
at_least x y no_less = let le : y ≤ x = omega (arith, no_less) in search (rules, tests)

pub one_is_long : (xs : List ℕ) (i : ℕ) → i < length xs → (get_or xs i 0 < 2 ^ 16 → ⊥) → None ≡ numbers_if_short xs
unfolding numbers_if_short
one_is_long xs i less long = sym (ap (λ b. cond b (Some xs) None) (one_fails (λ n. ltb n (2 ^ 16)) xs i less (at_least (get_or xs i 0) (2 ^ 16) long)))

whole : (xs : List ℕ) (i : ℕ) → length xs ≤ i → take i xs ≡ xs
whole [] zero le = refl
whole [] (suc i) le = refl
whole (x ∷ xs) zero le = absurd (omega arith)
whole (x ∷ xs) (suc i) le = ap (λ l. x ∷ l) (whole xs i (omega arith))

pub all_are_short : (xs members : List ℕ) (i : ℕ) → length xs ≤ i → members ≡ take i xs → list_all (λ n. ltb n (2 ^ 16)) (take i xs) ≡ true → Some members ≡ numbers_if_short xs
unfolding numbers_if_short
all_are_short xs members i le same short =
    ap Some (same ∙ whole xs i le)
    ∙ sym (ap (λ b. cond b (Some xs) None) (sym (ap (list_all (λ n. ltb n (2 ^ 16))) (whole xs i le)) ∙ short))
