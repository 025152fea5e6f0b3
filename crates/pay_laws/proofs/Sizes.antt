-- How many members a list of claims counts, as the size of a set of members.
use Rattle.std.proofs.Common.{◌≡◌, ℕ, zero, suc, ◌+◌, ◌<◌, ◌≤◌, Bool, true, false, cond, eqb, ◌||◌, List, [], ◌∷◌, map, length, get_or, inl, inr, refl, sym, ap, ap₂, ◌∙◌, arith, eq-eqb}
use Rattle.std.specs.List.{count_by, range_with_len}
use Rattle.std.proofs.lemmas.Bool.{cases_eq, ne_eqb}
use Rattle.std.proofs.lemmas.List.FromFn.{fill_by_all}
use Rattle.std.proofs.lemmas.List.Sums.{sum_by-cons}
use Rattle.pay_echo.specs.Broadcast.{size}

abbrev one : Bool → ℕ
one b = cond b 1 0

count-cons : {X : Type 0} (p : X → Bool) (x : X) (xs : List X) → count_by p (x ∷ xs) ≡ one (p x) + count_by p xs
count-cons p x xs = sum_by-cons (λ y. cond (p y) 1 0) x xs

count-map : {X Y : Type 0} (p : Y → Bool) (f : X → Y) (xs : List X) → count_by p (map f xs) ≡ count_by (λ x. p (f x)) xs
count-map p f [] = refl
count-map p f (x ∷ xs) =
    count-cons p (f x) (map f xs) ∙ ap (λ n. one (p (f x)) + n) (count-map p f xs) ∙ sym (count-cons (λ y. p (f y)) x xs)

-- as many of a list pass as places have one that does
pub count_is_size : {X : Type 0} (p : X → Bool) (xs : List X) (d : X) (n : ℕ) → length xs ≡ n → count_by p xs ≡ size n (λ k. p (get_or xs k d))
unfolding size
count_is_size p xs d n long =
    ap (count_by p) (fill_by_all (λ k. get_or xs k d) xs n d long (λ k below. refl))
    ∙ count-map p (λ k. get_or xs k d) (range_with_len 0 n)

-- ---- a set with one member more

-- numbers that are all above m
above : (m : ℕ) (set : ℕ → Bool) (a n : ℕ) → m < a → count_by (λ p. eqb p m || set p) (range_with_len a n) ≡ count_by set (range_with_len a n)
above m set a zero lower = refl
above m set a (suc n) lower =
    let other : eqb a m ≡ false = ne_eqb a m (λ same. omega (arith, same)) in
    count-cons (λ p. eqb p m || set p) a (range_with_len (a + 1) n)
    ∙ ap₂ (λ b k. one (b || set a) + k) other (above m set (a + 1) n (omega arith))
    ∙ sym (count-cons set a (range_with_len (a + 1) n))

one_more_in : (m : ℕ) (set : ℕ → Bool) (a n : ℕ) → set m ≡ false → a ≤ m → m < a + n
    → count_by (λ p. eqb p m || set p) (range_with_len a n) ≡ count_by set (range_with_len a n) + 1
one_more_in m set a zero out low high = absurd (omega arith)
one_more_in m set a (suc n) out low high = elim (cases_eq a m) [
  | inl same ↦
      let here : one (eqb a m || set a) ≡ 1 = ap (λ b. one (b || set a)) (eq-eqb a m same) in
      let not_there : one (set a) ≡ 0 = ap (λ k. one (set k)) same ∙ ap one out in
      omega (arith, count-cons (λ p. eqb p m || set p) a (range_with_len (a + 1) n), count-cons set a (range_with_len (a + 1) n), here, not_there, above m set (a + 1) n (omega (arith, same)))
  | inr other ↦
      let same : one (eqb a m || set a) ≡ one (set a) = ap (λ b. one (b || set a)) (ne_eqb a m other) in
      let later : m < (a + 1) + n = omega arith in
      omega (arith, count-cons (λ p. eqb p m || set p) a (range_with_len (a + 1) n), count-cons set a (range_with_len (a + 1) n), same, one_more_in m set (a + 1) n out (not_first other) later)
] where
  not_first : (a ≡ m → ⊥) → a + 1 ≤ m
  not_first other = grind arith

-- a member that isn't in the set makes it larger by one
pub size_with : (n m : ℕ) (set : ℕ → Bool) → m < n → set m ≡ false → size n (λ p. eqb p m || set p) ≡ size n set + 1
unfolding size
size_with n m set below out = one_more_in m set 0 n out (omega arith) (omega arith)

one_either : (a b : Bool) → one (a || b) ≤ one a + one b
one_either true b = omega arith
one_either false b = omega arith

either_most : (some others : ℕ → Bool) (xs : List ℕ) → count_by (λ p. some p || others p) xs ≤ count_by some xs + count_by others xs
either_most some others [] = omega arith
either_most some others (x ∷ xs) =
    omega (arith, count-cons some x xs, count-cons others x xs, count-cons (λ p. some p || others p) x xs, one_either (some x) (others x), either_most some others xs)

pub size_of_either : (n : ℕ) (some others : ℕ → Bool) → size n (λ p. some p || others p) ≤ size n some + size n others
unfolding size
size_of_either n some others = either_most some others (range_with_len 0 n)

-- one member alone
pub size_of_one : (n m : ℕ) → size n (λ p. eqb p m) ≤ 1
unfolding size
size_of_one n m = single 0 n where
  none : (a k : ℕ) → m < a → count_by (λ p. eqb p m) (range_with_len a k) ≡ 0
  none a zero lower = refl
  none a (suc k) lower =
      let here : one (eqb a m) ≡ 0 = ap one (ne_eqb a m (λ same. omega (arith, same))) in
      omega (arith, count-cons (λ p. eqb p m) a (range_with_len (a + 1) k), here, none (a + 1) k (omega arith))

  single : (a k : ℕ) → count_by (λ p. eqb p m) (range_with_len a k) ≤ 1
  single a zero = omega arith
  single a (suc k) = elim (cases_eq a m) [
    | inl same ↦
        let here : one (eqb a m) ≡ 1 = ap one (eq-eqb a m same) in
        omega (arith, count-cons (λ p. eqb p m) a (range_with_len (a + 1) k), here, none (a + 1) k (omega (arith, same)))
    | inr other ↦
        let here : one (eqb a m) ≡ 0 = ap one (ne_eqb a m other) in
        omega (arith, count-cons (λ p. eqb p m) a (range_with_len (a + 1) k), here, single (a + 1) k)
  ]
