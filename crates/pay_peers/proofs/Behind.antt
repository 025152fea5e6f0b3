-- What is asked for behind an answer.
use Rattle.std.proofs.Common.{◌≡◌, ◌⊎◌, inl, inr, ℕ, ◌+◌, ◌-◌, ◌^◌, ◌<◌, ◌≤◌, zero, suc, min, max, cond, ltb, true, false, [], ◌∷◌, length, get_or, Some, refl, ap, ◌∙◌, arith}
use Rattle.std.specs.Prelude.{nat_le}
use Rattle.std.specs.List.{All, AllPairs, Contains}
use Rattle.std.proofs.lemmas.Bool.{cases_Bool, leb-true, leb-false, ltb-true, ltb-false}
use Rattle.pay_peers.specs.declared.window.Window.{Window}
use Rattle.pay_peers.specs.AheadLaws.{AsksEachOnce, IsUnderWay}
use Rattle.pay_peers.specs.Window.{asked_behind, count_behind, due_behind, from_behind, moved_window, row_of}

-- ---- numbers in a row

length-row : (from count : ℕ) → length (row_of from count) ≡ count
length-row from zero = refl
length-row from (suc count) = ap suc (length-row (from + 1) count)

row_at : (from count k d : ℕ) → k < count → get_or (row_of from count) k d ≡ from + k
row_at from zero k d below = absurd (omega arith)
row_at from (suc count) zero d below = omega arith
row_at from (suc count) (suc k) d below =
    let rest : (from + 1) + k ≡ from + suc k = omega arith in
    row_at (from + 1) count k d (omega arith) ∙ rest

row_rises : (from count : ℕ) → AllPairs (λ number later. number < later) (row_of from count)
row_rises from count i j d below within =
    let last : j < count = omega (arith, length-row from count) in
    omega (arith, row_at from count i d (omega arith), row_at from count j d last)

row_within : (from count low high : ℕ) → low ≤ from → from + count ≤ high → All (λ number. (low ≤ number) × (number < high)) (row_of from count)
row_within from count low high above below k d within =
    let is = row_at from count k d (omega (arith, length-row from count)) in
    let inside : k < count = omega (arith, length-row from count) in
    (omega (arith, is), omega (arith, is))

row_has : (from count number : ℕ) → from ≤ number → number < from + count → Contains (row_of from count) number
row_has from count number above below =
    let place : from + (number - from) ≡ number = omega arith in
    (number - from, omega (arith, length-row from count), row_at from count (number - from) number (omega arith) ∙ place)

-- ---- the window

-- others are under way behind the frame that was due, or it was the last one
pub due_cases : (w : Window) (next : ℕ)
    → ((w.due + 1 < w.asked) × (due_behind w next ≡ w.due + 1)) ⊎ ((w.asked ≤ w.due + 1) × (due_behind w next ≡ max w.asked next))
due_cases w next = go (cases_Bool (ltb (w.due + 1) w.asked)) where
  go : (ltb (w.due + 1) w.asked ≡ true) ⊎ (ltb (w.due + 1) w.asked ≡ false)
      → ((w.due + 1 < w.asked) × (due_behind w next ≡ w.due + 1)) ⊎ ((w.asked ≤ w.due + 1) × (due_behind w next ≡ max w.asked next))
  go (inl more) = inl (ltb-true (w.due + 1) w.asked more, ap (λ b. cond b (w.due + 1) (max w.asked next)) more)
  go (inr last) = inr (ltb-false (w.due + 1) w.asked last, ap (λ b. cond b (w.due + 1) (max w.asked next)) last)

abbrev pub room : ℕ → Window → ℕ → ℕ
room ahead w next = min (min (ahead - (from_behind w next - due_behind w next)) 2) (2 ^ 64 - 1 - from_behind w next)

pub count_cases : (ahead : ℕ) (w : Window) (next : ℕ)
    → ((next ≤ from_behind w next) × (count_behind ahead w next ≡ room ahead w next)) ⊎ ((from_behind w next < next) × (count_behind ahead w next ≡ 0))
count_cases ahead w next = go (cases_Bool (nat_le next (from_behind w next))) where
  go : (nat_le next (from_behind w next) ≡ true) ⊎ (nat_le next (from_behind w next) ≡ false)
      → ((next ≤ from_behind w next) × (count_behind ahead w next ≡ room ahead w next)) ⊎ ((from_behind w next < next) × (count_behind ahead w next ≡ 0))
  go (inl enough) = inl (leb-true next (from_behind w next) enough, ap (λ b. cond b (room ahead w next) 0) enough)
  go (inr short) = inr (leb-false next (from_behind w next) short, ap (λ b. cond b (room ahead w next) 0) short)

-- the bounds of a step
record IsStep (ahead : ℕ) (w : Window) (due from count : ℕ) : Type 0 where
  forward : w.due < due
  beyond : w.asked ≤ from
  behind : (number : ℕ) → due ≤ number → w.asked ≤ number → from ≤ number
  few : from + count ≤ due + ahead
  some : due < from + count

bounds :
    (ahead : ℕ) (w : Window) (next due from count : ℕ) → 0 < ahead → w.due < w.asked → w.asked ≤ w.due + ahead
    → from + count < 2 ^ 64 - 1 → from ≡ max w.asked due
    → ((w.due + 1 < w.asked) × (due ≡ w.due + 1)) ⊎ ((w.asked ≤ w.due + 1) × (due ≡ max w.asked next))
    → ((next ≤ from) × (count ≡ min (min (ahead - (from - due)) 2) (2 ^ 64 - 1 - from))) ⊎ ((from < next) × (count ≡ 0))
    → IsStep ahead w due from count
bounds ahead w next due from count some under few numbers is (inl (more, at)) (inl (enough, many)) = record {
  forward = omega arith;
  beyond = omega arith;
  behind = λ number above after. omega arith;
  few = omega arith;
  some = omega arith;
}
bounds ahead w next due from count some under few numbers is (inl (more, at)) (inr (short, none)) = record {
  forward = omega arith;
  beyond = omega arith;
  behind = λ number above after. omega arith;
  few = omega arith;
  some = omega arith;
}
bounds ahead w next due from count some under few numbers is (inr (last, at)) (inl (enough, many)) = record {
  forward = omega arith;
  beyond = omega arith;
  behind = λ number above after. omega arith;
  few = omega arith;
  some = omega arith;
}
bounds ahead w next due from count some under few numbers is (inr (last, at)) (inr (short, none)) = absurd (omega arith)

pub asks_each_once :
    (ahead : ℕ) (w : Window) (next : ℕ) → 0 < ahead → IsUnderWay ahead w → (moved_window ahead w next).asked < 2 ^ 64 - 1
    → AsksEachOnce ahead w (moved_window ahead w next) (asked_behind ahead w (Some next))
asks_each_once ahead w next some under numbers =
    let due = due_behind w next in
    let from = from_behind w next in
    let count = count_behind ahead w next in
    let step : IsStep ahead w due from count = bounds ahead w next due from count some under.some under.few numbers refl (due_cases w next) (count_cases ahead w next) in
    record {
      forward = step.forward;
      under_way = record { some = step.some; few = step.few };
      rising = row_rises from count;
      new = row_within from count w.asked (from + count) step.beyond (omega arith);
      none_left = λ number above below after. row_has from count number (step.behind number above after) below;
    }

-- ---- one frame under way

-- the one behind is asked for
pub one_behind : (w : Window) (next : ℕ) → w.asked ≡ w.due + 1 → w.asked ≤ next → next < 2 ^ 64 - 1
    → (asked_behind 1 w (Some next) ≡ next ∷ []) × ((moved_window 1 w next).asked ≡ (moved_window 1 w next).due + 1)
one_behind w next one above numbers = go (due_cases w next) (count_cases 1 w next) where
  go : ((w.due + 1 < w.asked) × (due_behind w next ≡ w.due + 1)) ⊎ ((w.asked ≤ w.due + 1) × (due_behind w next ≡ max w.asked next))
      → ((next ≤ from_behind w next) × (count_behind 1 w next ≡ room 1 w next)) ⊎ ((from_behind w next < next) × (count_behind 1 w next ≡ 0))
      → (asked_behind 1 w (Some next) ≡ next ∷ []) × ((moved_window 1 w next).asked ≡ (moved_window 1 w next).due + 1)
  go (inl (more, at)) counted = absurd (omega arith)
  go (inr (last, at)) (inr (short, none)) = absurd (omega arith)
  go (inr (last, at)) (inl (enough, many)) =
      let due : due_behind w next ≡ next = omega arith in
      let from : from_behind w next ≡ next = omega arith in
      let count : count_behind 1 w next ≡ 1 = omega arith in
      (ap (λ n. row_of n (count_behind 1 w next)) from ∙ ap (row_of next) count, omega arith)
