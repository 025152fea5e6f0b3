-- The computed largest front is the largest.
use Rattle.std.proofs.Common.{◌≡◌, ℕ, zero, suc, ◌+◌, ◌<◌, ◌≤◌, pos, ◌-ℤ◌, Bool, true, false, cond, List, length, replicate, get_or, slice_index, refl, ap, ◌∙◌, sym, subst, arith, inl, inr, ◌⊎◌}
use Rattle.std.specs.Prelude.{slice_get, slice_set, Option, Some, None}
use Rattle.std.specs.List.{find, range_with_len}
use Rattle.std.proofs.lemmas.Int.{ints}
use Rattle.std.proofs.lemmas.Bool.{cases_eq, cases_Bool, leb-true, both_ways, le-leb}
use Rattle.std.proofs.lemmas.List.{length-set, get_or-set_same, get_or-set_other, length-replicate}
use Rattle.pay_book.specs.declared.payment.Entry.{Entry}
use Rattle.pay_book.specs.declared.payment.Entry.TheVariants.{Pay, Void}
use Rattle.pay_book.specs.Balance.{sum_below, paid_in, paid_out, balance_at}
use Rattle.pay_book.specs.Front.{Covers, MayStep, IsOneFurther, Reach, Start, Step, IsLargest, covers, may_step, front_after_step, front_after_turns, entry_count, largest_front}
use Rattle.pay_book.proofs.Sums.{sum_below-one_more, sum_below-lt}
use Rattle.std.proofs.lemmas.Grind.{same_number_lists}
use Rattle.pay_book.proofs.Reaching.{zero_front, Reach-within, within_from_Covers, largest_from_stuck, largest_is_one}
use Rattle.pay_book.proofs.Growing.{largest-same}

-- the test says what the definition says
pub Covers-from_covers : (income paid : ℕ) (next : Option Entry) → covers income paid next ≡ true → Covers (pos income -ℤ pos paid) next
Covers-from_covers income paid None e = absurd cc
Covers-from_covers income paid (Some Void) e = tt
Covers-from_covers income paid (Some (Pay payee amount)) e =
    let h = leb-true (paid + amount) income e in omega (arith, ints)

pub covers-from_Covers : (income paid : ℕ) (next : Option Entry) → Covers (pos income -ℤ pos paid) next → covers income paid next ≡ true
covers-from_Covers income paid None c = absurd c
covers-from_Covers income paid (Some Void) c = refl
covers-from_Covers income paid (Some (Pay payee amount)) c = le-leb (paid + amount) income (omega (arith, ints))

-- the first number of a range that passes, or none passes
find-range : (p : ℕ → Bool) (from n : ℕ) →
    ((find p (range_with_len from n) ≡ None) × ((k : ℕ) → from ≤ k → k < from + n → p k ≡ false))
    ⊎ ((k : ℕ) × (find p (range_with_len from n) ≡ Some k) × (k < from + n) × (p k ≡ true))
find-range p from zero = inl (refl, λ k low high. absurd (omega arith))
find-range p from (suc n) =
    elim (cases_Bool (p from)) [
      | inl pass ↦ inr (from, ap (λ b. cond b (Some from) (find p (range_with_len (from + 1) n))) pass, omega arith, pass)
      | inr fail ↦
          elim (find-range p (from + 1) n) [
            | inl none ↦ inl (
              ap (λ b. cond b (Some from) (find p (range_with_len (from + 1) n))) fail ∙ none.0,
              λ k low high. elim (cases_eq k from) [ inl e ↦ ap p e ∙ fail | inr ne ↦ none.1 k (omega arith) (omega arith) ],
            )
            | inr some ↦ inr (some.0, ap (λ b. cond b (Some from) (find p (range_with_len (from + 1) n))) fail ∙ some.1, omega (arith, some.2), some.3)
          ]
    ]

-- one more step, as a list
pub set_is_further : (front : List ℕ) (a : ℕ) → a < length front → IsOneFurther (slice_index front) a (slice_index (slice_set front a (slice_index front a + 1)))
set_is_further front a h = record {
  moved = get_or-set_same front a (get_or front a 0 + 1) 0 h;
  others = λ b ne. get_or-set_other front a b (get_or front a 0 + 1) 0 ne;
}

-- where no account may step, turns change nothing
stuck_turns : (opening : List ℕ) (logs : ℕ → List Entry) (turns : ℕ) (front : List ℕ) → find (may_step opening logs front) (range_with_len 0 (length opening)) ≡ None → front_after_turns opening logs turns front ≡ front
unfolding front_after_turns
stuck_turns opening logs zero front none = refl
stuck_turns opening logs (suc turns) front none =
    ap (λ o. front_after_turns opening logs turns (front_after_step front o)) none ∙ stuck_turns opening logs turns front none

-- at the ends of all lists nobody may step
ends_are_stuck : (opening : List ℕ) (logs : ℕ → List Entry) (front : ℕ → ℕ) → Reach opening logs front → entry_count (length opening) logs ≤ sum_below (length opening) front → (a : ℕ) → MayStep opening logs front a → ⊥
ends_are_stuck opening logs front r all a may =
    let inside = within_from_Covers (balance_at opening logs front a) (logs a) (front a) may.1 in
    let less = sum_below-lt (length opening) front (λ b. length (logs b)) a (λ b _. Reach-within opening logs r b) may.0 inside in
    omega arith

-- a list whose places are a largest front
abbrev ShowsLargest : List ℕ → (ℕ → List Entry) → List ℕ → Type 0
ShowsLargest opening logs front = (length front ≡ length opening) × IsLargest opening logs (slice_index front)

after_turns : (opening : List ℕ) (logs : ℕ → List Entry) (turns : ℕ) (front : List ℕ) → length front ≡ length opening → Reach opening logs (slice_index front) → entry_count (length opening) logs ≤ sum_below (length opening) (slice_index front) + turns → ShowsLargest opening logs (front_after_turns opening logs turns front)
unfolding front_after_turns
after_turns opening logs zero front len r enough =
    (len, largest_from_stuck opening logs (slice_index front) r (ends_are_stuck opening logs (slice_index front) r (omega arith)))
after_turns opening logs (suc turns) front len r enough =
    let P : Option ℕ → Type 0 = λ o. ShowsLargest opening logs (front_after_turns opening logs turns (front_after_step front o)) in
    let Q : List ℕ → Type 0 = λ f. ShowsLargest opening logs f in
    elim (find-range (may_step opening logs front) 0 (length opening)) [
      | inl none ↦
          (let stuck : (a : ℕ) → MayStep opening logs (slice_index front) a → ⊥ =
          λ a may. both_ways (may_step opening logs front a) (none.1 a (omega arith) (omega (arith, may.0)))
          (covers-from_Covers (slice_index opening a + paid_in (length opening) logs (slice_index front) a) (paid_out logs (slice_index front) a) (slice_get (logs a) (slice_index front a)) may.1) in
          subst P (sym none.0) (subst Q (sym (stuck_turns opening logs turns front none.0)) (len, largest_from_stuck opening logs (slice_index front) r stuck)))
      | inr some ↦
          (let a = some.0 in
          let there : a < length opening = omega (arith, some.2) in
          let may : MayStep opening logs (slice_index front) a =
          (there, Covers-from_covers (slice_index opening a + paid_in (length opening) logs (slice_index front) a) (paid_out logs (slice_index front) a) (slice_get (logs a) (slice_index front a)) some.3) in
          let further = set_is_further front a (omega arith) in
          let next = slice_set front a (slice_index front a + 1) in
          let rose = sum_below-one_more (length opening) (slice_index front) (slice_index next) a 1 there further.moved further.others in
          let rest = after_turns opening logs turns next (length-set front a (get_or front a 0 + 1) ∙ len) (Step a r may further) (omega arith) in
          subst P (sym some.1) rest)
    ]

-- The computed largest front has a place for each account, and is the largest.
pub largest_front_is_largest : (opening : List ℕ) (logs : ℕ → List Entry) → (length (largest_front opening logs) ≡ length opening) × IsLargest opening logs (slice_index (largest_front opening logs))
unfolding largest_front
largest_front_is_largest opening logs =
    let n = length opening in
    after_turns opening logs (entry_count n logs) (replicate n 0) (length-replicate {A = ℕ} n 0) (Start (zero_front n)) (omega arith)

-- Any list whose places are a largest front is the computed one.
pub same_largest_front : (opening : List ℕ) (logs : ℕ → List Entry) (front : List ℕ) → length front ≡ length opening → IsLargest opening logs (slice_index front) → front ≡ largest_front opening logs
same_largest_front opening logs front len largest =
    let computed = largest_front_is_largest opening logs in
    same_number_lists front (largest_front opening logs) (len ∙ sym computed.0) (λ k _. largest_is_one opening logs (slice_index front) (slice_index (largest_front opening logs)) largest computed.1 k)

-- lists that are the same for the accounts that are there have the same largest front
pub largest_front-same : (opening : List ℕ) (one other : ℕ → List Entry) → ((a : ℕ) → a < length opening → one a ≡ other a) → largest_front opening one ≡ largest_front opening other
largest_front-same opening one other same =
    let at_one = largest_front_is_largest opening one in
    let at_other = largest_front_is_largest opening other in
    same_number_lists (largest_front opening one) (largest_front opening other) (at_one.0 ∙ sym at_other.0) (λ k _. largest-same opening one other (slice_index (largest_front opening one)) (slice_index (largest_front opening other)) same at_one.1 at_other.1 k)
