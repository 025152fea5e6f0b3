-- The values that are settled wholly.
use Rattle.std.proofs.Common.{◌≡◌, ◌⊎◌, inl, inr, ⊎_elim, ℕ, ◌≤◌, min, leb, true, false, List, ◌++◌, length, take, drop, sym, ap, ◌∙◌, subst, arith, leb-true}
use Rattle.std.proofs.Math.Nat.{min-le_left, min-le_right}
use Rattle.std.proofs.lemmas.Bool.{cases_Bool}
use Rattle.std.proofs.lemmas.Bool.Decides.{nat_tests}
use Rattle.std.proofs.lemmas.List.{take-append-drop, take-append-le, take-take, take_min}
use Rattle.pay_channel.specs.Prefix.{IsPrefix}
use Rattle.pay_channel.specs.Asked.{asked_values}
use Rattle.pay_book.specs.Laws.{SettledPlacesGrow}
use Rattle.pay_book.specs.Settled.{settled_place}
use Rattle.pay_world.specs.Setting.{Setting, IsCorrect, HasFewFaulty}
use Rattle.pay_world.specs.Actions.{Action, history_by}
use Rattle.pay_world.specs.Genuine.{AreGenuine}
use Rattle.pay_world.specs.Headline.{lists_by, settled_values_by}
use Rattle.pay_world.specs.Below.{Below}
use Rattle.pay_world.proofs.Lists.{prefix_trans}
use Rattle.pay_world.proofs.Booking.{no_list_forks, list_was_asked, list_stays}

-- ---- prefixes

take_more : {X : Type 0} (m n : ℕ) (xs : List X) → m ≤ n → IsPrefix (take m xs) (take n xs)
take_more m n xs h =
    record {
      rest = drop m (take n xs);
      is = sym (take-append-drop m (take n xs)) ∙ ap (λ ys. ys ++ drop m (take n xs)) (take-take m n xs h);
    }

take_is_prefix : {X : Type 0} (m : ℕ) (xs : List X) → IsPrefix (take m xs) xs
take_is_prefix m xs = record { rest = drop m xs; is = sym (take-append-drop m xs) }

-- a prefix of a prefix is one of the whole
take_of_prefix : {X : Type 0} (m : ℕ) (xs ys : List X) → IsPrefix xs ys → take (min m (length xs)) ys ≡ take m xs
take_of_prefix m xs ys p =
    ap (take (min m (length xs))) p.is
    ∙ take-append-le (min m (length xs)) xs p.rest (min-le_right m (length xs))
    ∙ take_min m xs

take_grows : {X : Type 0} (m n : ℕ) (xs ys : List X) → m ≤ n → IsPrefix xs ys → IsPrefix (take m xs) (take n ys)
take_grows {X} m n xs ys h p =
    let P : List X → Type 0 = λ l. IsPrefix l (take n ys) in
    let fewer = min-le_left m (length xs) in
    subst P (take_of_prefix m xs ys p) (take_more (min m (length xs)) n ys (omega arith))

take_compares : {X : Type 0} (m n : ℕ) (xs ys : List X) → IsPrefix xs ys → IsPrefix (take m xs) (take n ys) ⊎ IsPrefix (take n ys) (take m xs)
take_compares {X} m n xs ys p = subst P (take_of_prefix m xs ys p) (⊎_elim before behind (cases_Bool (leb k n))) where
  k : ℕ
  k = min m (length xs)

  P : List X → Type 0
  P l = IsPrefix l (take n ys) ⊎ IsPrefix (take n ys) l

  before : leb k n ≡ true → P (take k ys)
  before t = inl (take_more k n ys (leb-true k n t))

  behind : leb k n ≡ false → P (take k ys)
  behind f = let past : n ≤ k = grind (arith, nat_tests) in inr (take_more n k ys past)

-- ---- settled values

pub settled_value_stays :
    (below : Below) → SettledPlacesGrow → (w : Setting) (opening : List ℕ) (one actions : List Action) (i a : ℕ) → IsPrefix one actions
    → IsPrefix (settled_values_by w opening one i a) (settled_values_by w opening actions i a)
settled_value_stays below grows w opening one actions i a p =
    take_grows
    (settled_place opening (lists_by w one i) a).0
    (settled_place opening (lists_by w actions i) a).0
    (lists_by w one i a) (lists_by w actions i a)
    (grows opening (lists_by w one i) (lists_by w actions i) (λ b _. list_stays below w one actions i b p) a)
    (list_stays below w one actions i a p)

module _ (below : Below) (w : Setting) (opening : List ℕ) (actions : List Action) (few : HasFewFaulty w) (are : AreGenuine w actions) where
  pub no_settled_value_forks :
      (one other : List Action) (i j a : ℕ) → IsPrefix one actions → IsPrefix other actions → IsCorrect w i → IsCorrect w j
      → IsPrefix (settled_values_by w opening one i a) (settled_values_by w opening other j a)
      ⊎ IsPrefix (settled_values_by w opening other j a) (settled_values_by w opening one i a)
  no_settled_value_forks one other i j a p q ci cj =
      ⊎_elim
      (λ h. take_compares m n (lists_by w one i a) (lists_by w other j a) h)
      (λ h. ⊎_elim (λ x. inr x) (λ x. inl x) (take_compares n m (lists_by w other j a) (lists_by w one i a) h))
      (no_list_forks below w actions few are one other i j a p q ci cj) where
        m : ℕ
        m = (settled_place opening (lists_by w one i) a).0

        n : ℕ
        n = (settled_place opening (lists_by w other j) a).0

  pub settled_value_was_asked : (i a : ℕ) → IsCorrect w i → IsCorrect w a → IsPrefix (settled_values_by w opening actions i a) (asked_values (history_by w actions a))
  settled_value_was_asked i a ci ca =
      prefix_trans (settled_values_by w opening actions i a) (lists_by w actions i a) (asked_values (history_by w actions a))
      (take_is_prefix (settled_place opening (lists_by w actions i) a).0 (lists_by w actions i a))
      (list_was_asked below w actions few are i a ci ca)
