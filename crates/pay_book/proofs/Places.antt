-- Where a front falls among values that have several entries each.
use Rattle.std.proofs.Common.{◌≡◌, ℕ, zero, suc, ◌+◌, ◌-◌, ◌<◌, ◌≤◌, cond, ltb, leb, List, [], ◌∷◌, ◌++◌, length, refl, ap, ap₂, ◌∙◌, sym, subst, arith, inl, inr}
use Rattle.std.specs.Prelude.{◌↔◌, slice_get, take, Option, Some, None, All}
use Rattle.std.specs.List.{flat_map, enumerate_from}
use Rattle.std.proofs.lemmas.Bool.{cases_lt, cases_Bool, cond-true, cond-false, lt-ltb, le-ltb, le-leb, lt-leb}
use Rattle.std.proofs.lemmas.List.{length-append}
use Rattle.std.proofs.lemmas.List.Elements.{All-head, All-tail}
use Rattle.std.proofs.lemmas.Option.{same_Some}
use Rattle.pay_book.specs.Places.{Place, one_value_further, place_in, place_after}
use Rattle.pay_book.proofs.Growing.{slice_get-append_left}

-- what is behind the first of two lists is in the second
slice_get-append_right : {X : Type 0} (xs more : List X) (k : ℕ) → length xs ≤ k → slice_get (xs ++ more) k ≡ slice_get more (k - length xs)
slice_get-append_right [] more k h = ap (slice_get more) (omega arith)
slice_get-append_right (x ∷ xs) more zero h = absurd (omega arith)
slice_get-append_right (x ∷ xs) more (suc k) h = slice_get-append_right xs more k (omega arith) ∙ ap (slice_get more) (omega arith)

-- the entry at a place
pub entry_from : {X A : Type 0} → (X → List A) → Option X → ℕ → Option A
entry_from f None place = None
entry_from f (Some x) place = slice_get (f x) place

pub entry_from-some : {X A : Type 0} (f : X → List A) (o : Option X) (x : X) (place : ℕ) → o ≡ Some x → entry_from f o place ≡ slice_get (f x) place
unfolding entry_from
entry_from-some f o x place e = ap (λ v. entry_from f v place) e

pub entry_from-none : {X A : Type 0} (f : X → List A) (o : Option X) (place : ℕ) → o ≡ None → entry_from f o place ≡ None
unfolding entry_from
entry_from-none f o place e = ap (λ v. entry_from f v place) e

-- a place in the second value and beyond
further_after : (count : ℕ) (place : Place) → one_value_further (place_after count place) ≡ place_after count (one_value_further place)
further_after count place =
    elim (cases_Bool (ltb (place.1 + 1) count)) [
      | inl more ↦
          ap one_value_further (cond-true (ltb (place.1 + 1) count) (place.0, place.1 + 1) (place.0 + 1, 0) more)
          ∙ sym (cond-true (ltb (place.1 + 1) count) (suc place.0, place.1 + 1) (suc place.0 + 1, 0) more)
      | inr last ↦
          (let same : suc (place.0 + 1) ≡ suc place.0 + 1 = omega arith in
          ap one_value_further (cond-false (ltb (place.1 + 1) count) (place.0, place.1 + 1) (place.0 + 1, 0) last)
          ∙ ap (λ (k : ℕ). (k, 0)) same
          ∙ sym (cond-false (ltb (place.1 + 1) count) (suc place.0, place.1 + 1) (suc place.0 + 1, 0) last))
    ]

module _ {X : Type 0} (count : X → ℕ) where
  -- the first value is past, or it is the one that comes next
  place_past : (x : X) (xs : List X) (number : ℕ) → count x ≤ number → place_in count (x ∷ xs) number ≡ one_value_further (place_in count xs (number - count x))
  unfolding place_in
  place_past x xs number h = cond-true (leb (count x) number) _ _ (le-leb (count x) number h)

  place_first : (x : X) (xs : List X) (number : ℕ) → number < count x → place_in count (x ∷ xs) number ≡ (0, number)
  unfolding place_in
  place_first x xs number h = cond-false (leb (count x) number) _ _ (lt-leb (count x) number h)

  place_none : (number : ℕ) → place_in count [] number ≡ (0, number)
  unfolding place_in
  place_none number = refl

  pub place_zero : (xs : List X) → ((x : X) → 0 < count x) → place_in count xs 0 ≡ (0, 0)
  place_zero [] some = place_none 0
  place_zero (x ∷ xs) some = place_first x xs 0 (some x)

  none_there : (number : ℕ) (x : X) → slice_get [] (place_in count [] number).0 ≡ Some x → ⊥
  none_there number x there = absurd cc

  -- the value that comes next has more entries than are before the place
  pub place-within : (xs : List X) (number : ℕ) (x : X) → slice_get xs (place_in count xs number).0 ≡ Some x → (place_in count xs number).1 < count x
  place-within [] number x = λ there. absurd (none_there number x there)
  place-within (y ∷ ys) number x =
      let P : Place → Type 0 = λ p. slice_get (y ∷ ys) p.0 ≡ Some x → p.1 < count x in
      elim (cases_lt number (count y)) [
        | inl first ↦
            (let here : Some y ≡ Some x → number < count x = λ e. (let same = ap count (same_Some y x e) in omega arith) in
            subst P (sym (place_first y ys number first)) here)
        | inr past ↦ subst P (sym (place_past y ys number past)) (place-within ys (number - count y) x)
      ]

  -- one entry further
  pub place_in-more : (xs : List X) (number : ℕ) (x : X) → ((y : X) → 0 < count y) → slice_get xs (place_in count xs number).0 ≡ Some x → place_in count xs (number + 1) ≡ place_after (count x) (place_in count xs number)
  place_in-more [] number x some = λ there. absurd (none_there number x there)
  place_in-more (y ∷ ys) number x some =
      let P : Place → Type 0 = λ p. slice_get (y ∷ ys) p.0 ≡ Some x → place_in count (y ∷ ys) (number + 1) ≡ place_after (count x) p in
      elim (cases_lt number (count y)) [
        | inl first ↦
            (let here : Some y ≡ Some x → place_in count (y ∷ ys) (number + 1) ≡ place_after (count x) (0, number) =
            λ e. (let same = ap count (same_Some y x e) in
            elim (cases_lt (number + 1) (count y)) [
              | inl more ↦ place_first y ys (number + 1) more ∙ sym (cond-true (ltb (number + 1) (count x)) (0, number + 1) (1, 0) (lt-ltb (number + 1) (count x) (omega arith)))
              | inr last ↦
                  (let nothing : number + 1 - count y ≡ 0 = omega arith in
                  place_past y ys (number + 1) last
                  ∙ ap (λ n. one_value_further (place_in count ys n)) nothing
                  ∙ ap one_value_further (place_zero ys some)
                  ∙ sym (cond-false (ltb (number + 1) (count x)) (0, number + 1) (1, 0) (le-ltb (number + 1) (count x) (omega arith))))
            ]) in
            subst P (sym (place_first y ys number first)) here)
        | inr past ↦
            (let rest = place_in-more ys (number - count y) x some in
            let less : number + 1 - count y ≡ number - count y + 1 = omega arith in
            let later : slice_get ys (place_in count ys (number - count y)).0 ≡ Some x → place_in count (y ∷ ys) (number + 1) ≡ place_after (count x) (one_value_further (place_in count ys (number - count y))) =
            λ there. place_past y ys (number + 1) (omega arith)
            ∙ ap (λ n. one_value_further (place_in count ys n)) less
            ∙ ap one_value_further (rest there)
            ∙ further_after (count x) (place_in count ys (number - count y)) in
            subst P (sym (place_past y ys number past)) later)
      ]

  -- no more values are past than entries
  pub place_value-le : (xs : List X) (number : ℕ) → ((y : X) → 0 < count y) → (place_in count xs number).0 ≤ number
  place_value-le [] number some = let P : Place → Type 0 = λ p. p.0 ≤ number in subst P (sym (place_none number)) (omega arith)
  place_value-le (x ∷ xs) number some =
      let P : Place → Type 0 = λ p. p.0 ≤ number in
      let one = some x in
      elim (cases_lt number (count x)) [
        | inl first ↦ subst P (sym (place_first x xs number first)) (omega arith)
        | inr past ↦ (let rest = place_value-le xs (number - count x) some in subst P (sym (place_past x xs number past)) (omega arith))
      ]

  -- a greater number is no fewer values on
  pub place_value-mono : (xs : List X) (m n : ℕ) → m ≤ n → (place_in count xs m).0 ≤ (place_in count xs n).0
  place_value-mono [] m n h =
      let P : Place → Type 0 = λ p. p.0 ≤ (place_in count [] n).0 in
      subst P (sym (place_none m)) (omega arith)
  place_value-mono (x ∷ xs) m n h =
      let P : Place → Type 0 = λ p. p.0 ≤ (place_in count (x ∷ xs) n).0 in
      elim (cases_lt m (count x)) [
        | inl first ↦ subst P (sym (place_first x xs m first)) (omega arith)
        | inr past ↦
            (let Q : Place → Type 0 = λ p. (one_value_further (place_in count xs (m - count x))).0 ≤ p.0 in
            let rest = place_value-mono xs (m - count x) (n - count x) (omega arith) in
            subst P (sym (place_past x xs m past)) (subst Q (sym (place_past x xs n (omega arith))) (omega arith)))
      ]

  -- a place is no farther into a value than the number says
  pub place_rest-le : (xs : List X) (number : ℕ) → (place_in count xs number).1 ≤ number
  place_rest-le [] number = let P : Place → Type 0 = λ p. p.1 ≤ number in subst P (sym (place_none number)) (omega arith)
  place_rest-le (x ∷ xs) number =
      let P : Place → Type 0 = λ p. p.1 ≤ number in
      elim (cases_lt number (count x)) [
        | inl first ↦ subst P (sym (place_first x xs number first)) (omega arith)
        | inr past ↦ (let rest = place_rest-le xs (number - count x) in subst P (sym (place_past x xs number past)) (omega arith))
      ]

  -- back within one value
  pub place_back : (xs : List X) (number k : ℕ) → k ≤ (place_in count xs number).1 → place_in count xs (number - k) ≡ ((place_in count xs number).0, (place_in count xs number).1 - k)
  place_back [] number k =
      let P : Place → Type 0 = λ p. k ≤ p.1 → place_in count [] (number - k) ≡ (p.0, p.1 - k) in
      let here : k ≤ number → place_in count [] (number - k) ≡ (0, number - k) = λ h. place_none (number - k) in
      subst P (sym (place_none number)) here
  place_back (x ∷ xs) number k =
      let P : Place → Type 0 = λ p. k ≤ p.1 → place_in count (x ∷ xs) (number - k) ≡ (p.0, p.1 - k) in
      elim (cases_lt number (count x)) [
        | inl first ↦
            (let here : k ≤ number → place_in count (x ∷ xs) (number - k) ≡ (0, number - k) = λ h. place_first x xs (number - k) (omega arith) in
            subst P (sym (place_first x xs number first)) here)
        | inr past ↦
            (let low = place_rest-le xs (number - count x) in
            let rest = place_in count xs (number - count x) in
            let later : k ≤ rest.1 → place_in count (x ∷ xs) (number - k) ≡ (suc rest.0, rest.1 - k) =
            λ h. (let less : number - k - count x ≡ number - count x - k = omega arith in
            place_past x xs (number - k) (omega arith)
            ∙ ap (λ n. one_value_further (place_in count xs n)) less
            ∙ ap one_value_further (place_back xs (number - count x) k h)) in
            subst P (sym (place_past x xs number past)) later)
      ]

  -- no entry is before the first value
  place_at_start : (xs : List X) (number : ℕ) → place_in count xs number ≡ (0, 0) → number ≡ 0
  place_at_start [] number is = ap (λ (p : Place). p.1) (sym (place_none number) ∙ is)
  place_at_start (x ∷ xs) number is =
      elim (cases_lt number (count x)) [
        | inl first ↦ ap (λ (p : Place). p.1) (sym (place_first x xs number first) ∙ is)
        | inr past ↦
            (let none : suc (place_in count xs (number - count x)).0 ≡ 0 = ap (λ (p : Place). p.0) (sym (place_past x xs number past) ∙ is) in
            absurd (omega arith))
      ]

  -- where a value begins, the entries of the one before it are just before
  pub place_value_back : (xs : List X) (number v : ℕ) (x : X) → place_in count xs number ≡ (suc v, 0) → slice_get xs v ≡ Some x → (count x ≤ number) × ((j : ℕ) → j < count x → place_in count xs (number - count x + j) ≡ (v, j))
  place_value_back [] number v x is there = absurd cc
  place_value_back (y ∷ ys) number zero x is there =
      elim (cases_lt number (count y)) [
        | inl first ↦
            (let none : zero ≡ suc zero = ap (λ (p : Place). p.0) (sym (place_first y ys number first) ∙ is) in
            absurd (omega arith))
        | inr past ↦
            (let same = ap count (same_Some y x there) in
            let rest = place_in count ys (number - count y) in
            let further : one_value_further rest ≡ (1, 0) = sym (place_past y ys number past) ∙ is in
            let values : suc rest.0 ≡ 1 = ap (λ (p : Place). p.0) further in
            let entries : rest.1 ≡ 0 = ap (λ (p : Place). p.1) further in
            let none : rest.0 ≡ 0 = omega arith in
            let start = place_at_start ys (number - count y) (ap₂ (λ (a b : ℕ). (a, b)) none entries) in (
              omega arith,
              λ j h. (let here : number - count x + j ≡ j = omega arith in
                  ap (place_in count (y ∷ ys)) here ∙ place_first y ys j (omega arith)),
            ))
      ]
  place_value_back (y ∷ ys) number (suc v) x is there =
      elim (cases_lt number (count y)) [
        | inl first ↦
            (let none : zero ≡ suc (suc v) = ap (λ (p : Place). p.0) (sym (place_first y ys number first) ∙ is) in
            absurd (omega arith))
        | inr past ↦
            (let rest = place_in count ys (number - count y) in
            let further : one_value_further rest ≡ (suc (suc v), 0) = sym (place_past y ys number past) ∙ is in
            let values : suc rest.0 ≡ suc (suc v) = ap (λ (p : Place). p.0) further in
            let entries : rest.1 ≡ 0 = ap (λ (p : Place). p.1) further in
            let before : rest.0 ≡ suc v = omega arith in
            let more = place_value_back ys (number - count y) v x (ap₂ (λ (a b : ℕ). (a, b)) before entries) there in
            let low = more.0 in (
              omega arith,
              λ j h. (let less : number - count x + j - count y ≡ number - count y - count x + j = omega arith in
                  place_past y ys (number - count x + j) (omega arith)
                  ∙ ap (λ n. one_value_further (place_in count ys n)) less
                  ∙ ap one_value_further (more.1 j h)),
            ))
      ]

  -- the numbers from a value's first entry to a place in it
  pub place_begins : (xs : List X) (number start : ℕ) (place : Place) → place ≡ place_in count xs number → start + place.1 ≡ number → (n : ℕ) → start ≤ n → n ≤ number → place_in count xs n ≡ (place.0, n - start)
  place_begins xs number start place at adds n from to =
      let values : place.0 ≡ (place_in count xs number).0 = ap (λ (p : Place). p.0) at in
      let entries : place.1 ≡ (place_in count xs number).1 = ap (λ (p : Place). p.1) at in
      let back : number - (number - n) ≡ n = omega arith in
      let less : (place_in count xs number).1 - (number - n) ≡ n - start = omega arith in
      ap (place_in count xs) (sym back) ∙ place_back xs number (number - n) (omega arith) ∙ ap₂ (λ (a b : ℕ). (a, b)) (sym values) less

  -- a value begins behind the first entry only where another is before it
  pub value_is_before : (xs : List X) (start seq : ℕ) → place_in count xs start ≡ (seq, 0) → 0 < start → 1 ≤ seq
  value_is_before xs start zero at some = (let none = place_at_start xs start at in absurd (omega arith))
  value_is_before xs start (suc seq) at some = omega arith

  -- the numbers of the entries of the value before
  pub value_before : (xs : List X) (start seq v : ℕ) (x : X) → place_in count xs start ≡ (seq, 0) → seq ≡ suc v → slice_get xs v ≡ Some x → (count x ≤ start) × ((n : ℕ) → start - count x ≤ n → n < start → place_in count xs n ≡ (v, n - (start - count x)))
  value_before xs start seq v x at one there =
      let back = place_value_back xs start v x (at ∙ ap (λ (n : ℕ). (n, 0)) one) there in
      let low = back.0 in (
        low,
        λ n from to. (let here : start - count x + (n - (start - count x)) ≡ n = omega arith in
            ap (place_in count xs) (sym here) ∙ back.1 (n - (start - count x)) (omega arith)),
      )

  -- where each value is one entry
  pub place_in-ones : (xs : List X) (number : ℕ) → All (λ x. count x ≡ 1) xs → number ≤ length xs → place_in count xs number ≡ (number, 0)
  place_in-ones [] number all h =
      let none : number ≡ 0 = omega arith in
      place_none number ∙ ap (λ (n : ℕ). (0, n)) none ∙ ap (λ (n : ℕ). (n, 0)) (sym none)
  place_in-ones (x ∷ xs) number all h =
      let one : count x ≡ 1 = All-head (λ y. count y ≡ 1) x xs all in
      elim (cases_lt number (count x)) [
        | inl first ↦ (let none : number ≡ 0 = omega arith in place_first x xs number first ∙ ap (λ (n : ℕ). (0, n)) none ∙ ap (λ (n : ℕ). (n, 0)) (sym none))
        | inr past ↦
            (let rest = place_in-ones xs (number - count x) (All-tail (λ y. count y ≡ 1) x xs all) (omega arith) in
            let same : suc (number - count x) ≡ number = omega arith in
            place_past x xs number past ∙ ap one_value_further rest ∙ ap (λ (n : ℕ). (n, 0)) same)
      ]

  -- the same values with their numbers
  pub place_in-numbered : (from : ℕ) (xs : List X) (number : ℕ) → place_in (λ (v : ℕ × X). count v.1) (enumerate_from from xs) number ≡ place_in count xs number
  unfolding place_in
  place_in-numbered from [] number = refl
  place_in-numbered from (x ∷ xs) number =
      ap (λ p. cond (leb (count x) number) (one_value_further p) (0, number)) (place_in-numbered (from + 1) xs (number - count x))

  module _ {A : Type 0} (f : X → List A) (counts : (x : X) → length (f x) ≡ count x) where
    -- the entry that comes next
    pub slice_get-flat_map : (xs : List X) (number : ℕ) → slice_get (flat_map f xs) number ≡ entry_from f (slice_get xs (place_in count xs number).0) (place_in count xs number).1
    unfolding place_in entry_from
    slice_get-flat_map [] number = refl
    slice_get-flat_map (x ∷ xs) number =
        let long = counts x in
        let P : Place → Type 0 = λ p. slice_get (flat_map f (x ∷ xs)) number ≡ entry_from f (slice_get (x ∷ xs) p.0) p.1 in
        elim (cases_lt number (count x)) [
          | inl first ↦ subst P (sym (place_first x xs number first)) (slice_get-append_left (f x) (flat_map f xs) number (omega arith))
          | inr past ↦
              (let behind = slice_get-append_right (f x) (flat_map f xs) number (omega arith) in
              subst P (sym (place_past x xs number past))
              (behind ∙ ap (λ n. slice_get (flat_map f xs) (number - n)) long ∙ slice_get-flat_map xs (number - count x)))
        ]

    -- values behind the place change nothing
    pub place_in-append : (xs more : List X) (number : ℕ) → ((x : X) → 0 < count x) → number ≤ length (flat_map f xs) → place_in count (xs ++ more) number ≡ place_in count xs number
    place_in-append [] more number some h =
        let nothing : number ≡ 0 = omega arith in
        ap (place_in count more) nothing ∙ place_zero more some ∙ ap (λ (n : ℕ). (0, n)) (sym nothing) ∙ sym (place_none number)
    place_in-append (x ∷ xs) more number some h =
        let long = counts x in
        let both = length-append (f x) (flat_map f xs) in
        elim (cases_lt number (count x)) [
          | inl first ↦ place_first x (xs ++ more) number first ∙ sym (place_first x xs number first)
          | inr past ↦
              place_past x (xs ++ more) number past
              ∙ ap one_value_further (place_in-append xs more (number - count x) some (omega arith))
              ∙ sym (place_past x xs number past)
        ]

    -- a number within the entries is in the values
    pub place_value-within : (xs : List X) (number : ℕ) → number ≤ length (flat_map f xs) → (place_in count xs number).0 ≤ length xs
    place_value-within [] number h = let P : Place → Type 0 = λ p. p.0 ≤ 0 in subst P (sym (place_none number)) (omega arith)
    place_value-within (x ∷ xs) number h =
        let P : Place → Type 0 = λ p. p.0 ≤ length (x ∷ xs) in
        let long = counts x in
        let both = length-append (f x) (flat_map f xs) in
        elim (cases_lt number (count x)) [
          | inl first ↦ subst P (sym (place_first x xs number first)) (omega arith)
          | inr past ↦ (let rest = place_value-within xs (number - count x) (omega arith) in subst P (sym (place_past x xs number past)) (omega arith))
        ]

    -- the entries of the values before the place, and those of the next one, are as many as the number says
    pub place_adds_up : (xs : List X) (number : ℕ) → length (flat_map f (take (place_in count xs number).0 xs)) + (place_in count xs number).1 ≡ number
    place_adds_up [] number =
        let P : Place → Type 0 = λ p. length (flat_map f (take p.0 [])) + p.1 ≡ number in
        subst P (sym (place_none number)) (omega arith)
    place_adds_up (x ∷ xs) number =
        let P : Place → Type 0 = λ p. length (flat_map f (take p.0 (x ∷ xs))) + p.1 ≡ number in
        elim (cases_lt number (count x)) [
          | inl first ↦ subst P (sym (place_first x xs number first)) (omega arith)
          | inr past ↦
              (let rest = place_adds_up xs (number - count x) in
              let long = counts x in
              let both = length-append (f x) (flat_map f (take (place_in count xs (number - count x)).0 xs)) in
              subst P (sym (place_past x xs number past)) (omega arith))
        ]

    -- a value is before the place where all its entries are before the number
    pub place_is_behind : (xs : List X) (number s : ℕ) → s < length xs → (s < (place_in count xs number).0) ↔ (length (flat_map f (take (suc s) xs)) ≤ number)
    place_is_behind [] number s h = absurd (omega arith)
    place_is_behind (x ∷ xs) number zero h =
        let P : Place → Type 0 = λ p. (0 < p.0) ↔ (length (flat_map f (take 1 (x ∷ xs))) ≤ number) in
        let long = counts x in
        let both = length-append (f x) [] in
        elim (cases_lt number (count x)) [
          | inl first ↦ subst P (sym (place_first x xs number first)) (λ l. absurd (omega arith), λ l. absurd (omega arith))
          | inr past ↦ subst P (sym (place_past x xs number past)) (λ l. omega arith, λ l. omega arith)
        ]
    place_is_behind (x ∷ xs) number (suc s) h =
        let P : Place → Type 0 = λ p. (suc s < p.0) ↔ (length (flat_map f (take (suc (suc s)) (x ∷ xs))) ≤ number) in
        let long = counts x in
        let both = length-append (f x) (flat_map f (take (suc s) xs)) in
        elim (cases_lt number (count x)) [
          | inl first ↦ subst P (sym (place_first x xs number first)) (λ l. absurd (omega arith), λ l. absurd (omega arith))
          | inr past ↦
              (let rest = place_is_behind xs (number - count x) s (omega arith) in
              subst P (sym (place_past x xs number past))
              (λ l. (let less = rest.0 (omega arith) in omega arith), λ l. (let less = rest.1 (omega arith) in omega arith)))
        ]
