-- Sums over the first n accounts.
use Rattle.std.proofs.Common.{◌≡◌, ◌≢◌, ℕ, zero, suc, ◌+◌, ◌*◌, ◌<◌, ◌≤◌, refl, sym, subst, arith, inl, inr}
use Rattle.std.proofs.lemmas.Bool.{cases_lt}
use Rattle.pay_book.specs.Balance.{sum_below}

pub sum_below-le : (n : ℕ) (f g : ℕ → ℕ) → ((k : ℕ) → k < n → f k ≤ g k) → sum_below n f ≤ sum_below n g
sum_below-le zero f g h = omega arith
sum_below-le (suc n) f g h =
    let rest = sum_below-le n f g (λ k l. h k (omega arith)) in
    let here = h n (omega arith) in
    omega arith

pub sum_below-same : (n : ℕ) (f g : ℕ → ℕ) → ((k : ℕ) → k < n → f k ≡ g k) → sum_below n f ≡ sum_below n g
sum_below-same zero f g h = refl
sum_below-same (suc n) f g h =
    let rest = sum_below-same n f g (λ k l. h k (omega arith)) in
    let here = h n (omega arith) in
    omega arith

pub sum_below-add : (n : ℕ) (f g : ℕ → ℕ) → sum_below n (λ k. f k + g k) ≡ sum_below n f + sum_below n g
sum_below-add zero f g = refl
sum_below-add (suc n) f g = let rest = sum_below-add n f g in omega arith

pub sum_below-zero : (n : ℕ) → sum_below n (λ _. 0) ≡ 0
sum_below-zero zero = refl
sum_below-zero (suc n) = let rest = sum_below-zero n in omega arith

-- a sum of sums may be taken in either order
pub sum_below-swap : (n m : ℕ) (f : ℕ → ℕ → ℕ) → sum_below n (λ i. sum_below m (f i)) ≡ sum_below m (λ j. sum_below n (λ i. f i j))
sum_below-swap zero m f = sym (sum_below-zero m)
sum_below-swap (suc n) m f =
    let rest = sum_below-swap n m f in
    let joined = sum_below-add m (λ j. sum_below n (λ i. f i j)) (f n) in
    omega arith

-- one term is within the sum
pub sum_below-at : (n : ℕ) (f : ℕ → ℕ) (k : ℕ) → k < n → f k ≤ sum_below n f
sum_below-at zero f k h = absurd (omega arith)
sum_below-at (suc n) f k h =
    elim (cases_lt k n) [ inl l ↦ (let rest = sum_below-at n f k l in omega arith) | inr l ↦ (let e : k ≡ n = omega arith in rw e (omega arith)) ]

-- a sum in which one term is greater by d
pub sum_below-one_more : (n : ℕ) (f g : ℕ → ℕ) (a d : ℕ) → a < n → g a ≡ f a + d → ((k : ℕ) → k ≢ a → g k ≡ f k) → sum_below n g ≡ sum_below n f + d
sum_below-one_more zero f g a d h e others = absurd (omega arith)
sum_below-one_more (suc n) f g a d h e others =
    elim (cases_lt a n) [
      | inl l ↦ (let rest = sum_below-one_more n f g a d l e others in let here = others n (omega arith) in omega arith)
      | inr l ↦ (let at : a ≡ n = omega arith in
          let rest = sum_below-same n g f (λ k lt. others k (omega arith)) in
          let here : g n ≡ f n + d = rw at at e in
          omega arith)
    ]

-- each term at most m
pub sum_below-bounded : (n : ℕ) (f : ℕ → ℕ) (m : ℕ) → ((k : ℕ) → k < n → f k ≤ m) → sum_below n f ≤ n * m
sum_below-bounded zero f m h = omega arith
sum_below-bounded (suc n) f m h =
    let rest = sum_below-bounded n f m (λ k l. h k (omega arith)) in
    let here = h n (omega arith) in
    omega arith

-- a sum of terms none of which is greater, and one of which is less
pub sum_below-lt : (n : ℕ) (f g : ℕ → ℕ) (a : ℕ) → ((k : ℕ) → k < n → f k ≤ g k) → a < n → f a < g a → sum_below n f < sum_below n g
sum_below-lt zero f g a h l lt = absurd (omega arith)
sum_below-lt (suc n) f g a h l lt =
    let rest = sum_below-le n f g (λ k below. h k (omega arith)) in
    let here = h n (omega arith) in
    elim (cases_lt a n) [
      | inl below ↦ (let less = sum_below-lt n f g a (λ k below_n. h k (omega arith)) below lt in omega arith)
      | inr last ↦ (let at : a ≡ n = omega arith in let P : ℕ → Type 0 = λ x. f x < g x in let less : f n < g n = subst P at lt in omega arith)
    ]
