-- Counting the values that follow, number by number.
use Rattle.std.proofs.Common.{◌≡◌, ℕ, zero, suc, refl, ◌+◌, ◌-◌, ◌<◌, ◌≤◌, true, false, List, length, Option, None, Some, is_some, sym, ap, ◌∙◌, arith}
use Rattle.std.specs.Option.{option_map}
use Rattle.pay_channel.specs.History.{known_from}
use Rattle.pay_channel.proofs.Grown.{known_from-some, known_from-none}

value_there : {X : Type 0} (f : X → List ℕ) (r : Option X) (o : Option (List ℕ)) → option_map f r ≡ o → is_some r ≡ true → (v : List ℕ) × (o ≡ Some v)
value_there f None o e there = cc
value_there f (Some x) o e there = (f x, sym e)

no_value_there : {X : Type 0} (f : X → List ℕ) (r : Option X) (o : Option (List ℕ)) → option_map f r ≡ o → is_some r ≡ false → o ≡ None
no_value_there f None o e there = sym e
no_value_there f (Some x) o e there = cc

module _ {X : Type 0} (f : X → List ℕ) (r : Option X) (at : ℕ → Option (List ℕ)) (from s n : ℕ) (is : option_map f r ≡ at s) (below : s < n) (begun : from ≤ s) where
  left : n - s ≡ suc (n - (s + 1))
  left = omega arith

  pub counted_on : (total : ℕ) → is_some r ≡ true → (s - from) + length (known_from at s (n - s)) ≡ total → ((s + 1) - from) + length (known_from at (s + 1) (n - (s + 1))) ≡ total
  counted_on total there so_far =
      let found = value_there f r (at s) is there in
      let longer : length (known_from at s (n - s)) ≡ suc (length (known_from at (s + 1) (n - (s + 1)))) = ap (λ m. length (known_from at s m)) left ∙ ap length (known_from-some at s (n - (s + 1)) found.0 found.1) in
      omega arith

  pub counted_up : (total : ℕ) → is_some r ≡ false → (s - from) + length (known_from at s (n - s)) ≡ total → s - from ≡ total
  counted_up total missing so_far =
      let ends : length (known_from at s (n - s)) ≡ 0 = ap (λ m. length (known_from at s m)) left ∙ ap length (known_from-none at s (n - (s + 1)) (no_value_there f r (at s) is missing)) in
      omega arith

-- no number is left
pub counted_all : (at : ℕ → Option (List ℕ)) (from s n total : ℕ) → n ≤ s → s ≤ n → (s - from) + length (known_from at s (n - s)) ≡ total → n - from ≡ total
unfolding known_from
counted_all at from s n total ends within so_far =
    let none : n - s ≡ 0 = omega arith in
    let nothing : length (known_from at s (n - s)) ≡ 0 = ap (λ m. length (known_from at s m)) none in
    omega arith

-- where the number itself has no value, none follows
pub none_follows : (at : ℕ → Option (List ℕ)) (from n : ℕ) → (0 < n → at from ≡ None) → 0 ≡ length (known_from at from n)
unfolding known_from
none_follows at from zero none = refl
none_follows at from (suc n) none = sym (ap length (known_from-none at from n (none (omega arith))))
