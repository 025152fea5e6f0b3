-- Fronts that steps reach.
use Rattle.std.proofs.Common.{◌≡◌, ◌≢◌, ℕ, ◌+◌, ◌<◌, ◌≤◌, max, ℤ, cond, eqb, List, length, replicate, slice_index, refl, ap, ◌∙◌, sym, subst, arith, inl, inr}
use Rattle.std.specs.Prelude.{slice_get, Option, Some, None}
use Rattle.std.proofs.lemmas.Bool.{cases_eq, cases_lt, cond-true, cond-false, eq-eqb, ne_eqb}
use Rattle.std.proofs.lemmas.List.{length-replicate, get_or_past, get_or-replicate}
use Rattle.std.proofs.lemmas.Option.{slice_get_within}
use Rattle.pay_book.specs.declared.payment.Entry.{Entry}
use Rattle.pay_book.specs.Balance.{balance_at}
use Rattle.pay_book.specs.Front.{Covers, MayStep, IsOneFurther, Reach, Start, Step, IsLargest}
use Rattle.pay_book.proofs.Stepping.{MayStep-mono}

-- the front where nothing is settled, as a list
pub zero_front : (n a : ℕ) → slice_index (replicate n 0) a ≡ 0
zero_front n a =
    elim (cases_lt a n) [
      | inl below ↦ get_or-replicate n a 0 0 below
      | inr past ↦ get_or_past (replicate n 0) a 0 (let long = length-replicate {A = ℕ} n 0 in omega arith)
    ]

-- a front that agrees everywhere with a reached one is reached
pub Reach-same : (opening : List ℕ) (logs : ℕ → List Entry) {front : ℕ → ℕ} (other : ℕ → ℕ) → Reach opening logs front → ((a : ℕ) → other a ≡ front a) → Reach opening logs other
Reach-same opening logs other (Start zeros) same = Start (λ a. same a ∙ zeros a)
Reach-same opening logs other (Step a r may further) same =
    Step a r may (record { moved = same a ∙ further.moved; others = λ b ne. same b ∙ further.others b ne })

-- a covered entry is there
pub entry_from_Covers : (balance : ℤ) (next : Option Entry) → Covers balance next → (entry : Entry) × (next ≡ Some entry)
entry_from_Covers balance None c = absurd c
entry_from_Covers balance (Some entry) c = (entry, refl)

pub within_from_Covers : (balance : ℤ) (log : List Entry) (place : ℕ) → Covers balance (slice_get log place) → place < length log
within_from_Covers balance log place c =
    let there = entry_from_Covers balance (slice_get log place) c in slice_get_within log place there.0 there.1

pub Reach-within : (opening : List ℕ) (logs : ℕ → List Entry) {front : ℕ → ℕ} → Reach opening logs front → (a : ℕ) → front a ≤ length (logs a)
Reach-within opening logs (Start zeros) a = let e = zeros a in omega arith
Reach-within opening logs (Step {front = before} {next = next} b r may further) a =
    elim (cases_eq a b) [
      | inl e ↦ (let inside = within_from_Covers (balance_at opening logs before b) (logs b) (before b) may.1 in
          let moved = further.moved in
          let P : ℕ → Type 0 = λ x. next x ≤ length (logs x) in
          let at_b : next b ≤ length (logs b) = omega arith in
          subst P (sym e) at_b)
      | inr ne ↦ (let same = further.others a ne in let within = Reach-within opening logs r a in omega arith)
    ]

-- only accounts that are there take steps
pub Reach-outside : (opening : List ℕ) (logs : ℕ → List Entry) {front : ℕ → ℕ} → Reach opening logs front → (a : ℕ) → length opening ≤ a → front a ≡ 0
Reach-outside opening logs (Start zeros) a h = zeros a
Reach-outside opening logs (Step {front = before} {next = next} b r may further) a h =
    let ne : a ≢ b = λ e. absurd (let there = may.0 in omega arith) in
    further.others a ne ∙ Reach-outside opening logs r a h

-- no step of an account that is behind a front takes it past that front: both stand where the farther of them stood
pub max_step_behind : (m n next : ℕ → ℕ) (a : ℕ) → IsOneFurther n a next → n a < m a → (b : ℕ) → max (m b) (next b) ≡ max (m b) (n b)
max_step_behind m n next a further behind b =
    elim (cases_eq b a) [
      | inl e ↦ (let moved = further.moved in
          let P : ℕ → Type 0 = λ x. max (m x) (next x) ≡ max (m x) (n x) in
          let at_a : max (m a) (next a) ≡ max (m a) (n a) = omega arith in
          subst P (sym e) at_a)
      | inr ne ↦ ap (max (m b)) (further.others b ne)
    ]

pub max_step_level : (m n next : ℕ → ℕ) (a : ℕ) → IsOneFurther n a next → m a ≤ n a → IsOneFurther (λ b. max (m b) (n b)) a (λ b. max (m b) (next b))
max_step_level m n next a further level =
    let moved = further.moved in
    record { moved = omega arith; others = λ b ne. ap (max (m b)) (further.others b ne) }

-- Confluence: of two reached fronts the one that is as far as either at each account is reached.
pub Reach-max : (opening : List ℕ) (logs : ℕ → List Entry) (m : ℕ → ℕ) {n : ℕ → ℕ} → Reach opening logs m → Reach opening logs n → Reach opening logs (λ a. max (m a) (n a))
Reach-max opening logs m left (Start zeros) =
    Reach-same opening logs _ left (λ a. let e = zeros a in omega arith)
Reach-max opening logs m left (Step {front = n} {next = next} a right may further) =
    let joined = Reach-max opening logs m left right in
    elim (cases_lt (n a) (m a)) [
      | inl behind ↦ Reach-same opening logs (λ b. max (m b) (next b)) joined (max_step_behind m n next a further behind)
      | inr level ↦
          (let may_still = MayStep-mono opening logs n (λ b. max (m b) (n b)) a (λ b. omega arith) (omega arith) may in
          Step a joined may_still (max_step_level m n next a further level))
    ]

-- Where no account may step, no step has led anywhere past.
pub stuck_is_greatest : (opening : List ℕ) (logs : ℕ → List Entry) (m : ℕ → ℕ) {n : ℕ → ℕ} → ((a : ℕ) → MayStep opening logs m a → ⊥) → Reach opening logs n → (a : ℕ) → n a ≤ m a
stuck_is_greatest opening logs m stuck (Start zeros) a = let e = zeros a in omega arith
stuck_is_greatest opening logs m stuck (Step {front = n} {next = next} b r may further) a =
    let before = stuck_is_greatest opening logs m stuck r in
    elim (cases_eq a b) [
      | inl e ↦ (let moved = further.moved in let below = before b in
          let at_b : next b ≤ m b =
          elim (cases_lt (n b) (m b)) [
            | inl l ↦ omega arith
            | inr l ↦ (let level : n b ≡ m b = omega arith in absurd (stuck b (MayStep-mono opening logs n m b before level may)))
          ] in
          let P : ℕ → Type 0 = λ x. next x ≤ m x in
          subst P (sym e) at_b)
      | inr ne ↦ (let same = further.others a ne in let below = before a in omega arith)
    ]

-- the front after a step
pub one_further : (ℕ → ℕ) → ℕ → ℕ → ℕ
one_further front a b = cond (eqb b a) (front a + 1) (front b)

pub one_further_is : (front : ℕ → ℕ) (a : ℕ) → IsOneFurther front a (one_further front a)
unfolding one_further
one_further_is front a = record {
  moved = cond-true (eqb a a) _ _ (eq-eqb a a refl);
  others = λ b ne. cond-false (eqb b a) _ _ (ne_eqb b a ne);
}

pub largest_is_stuck : (opening : List ℕ) (logs : ℕ → List Entry) (front : ℕ → ℕ) → IsLargest opening logs front → (a : ℕ) → MayStep opening logs front a → ⊥
largest_is_stuck opening logs front largest a may =
    let further = one_further_is front a in
    let next = Step {front = front} {next = one_further front a} a largest.reached may further in
    let not_past = largest.greatest (one_further front a) next a in
    let moved = further.moved in
    omega arith

pub largest_from_stuck : (opening : List ℕ) (logs : ℕ → List Entry) (front : ℕ → ℕ) → Reach opening logs front → ((a : ℕ) → MayStep opening logs front a → ⊥) → IsLargest opening logs front
largest_from_stuck opening logs front r stuck = record {
  reached = r;
  greatest = λ other reached. stuck_is_greatest opening logs front stuck reached;
}

pub largest_is_one : (opening : List ℕ) (logs : ℕ → List Entry) (one other : ℕ → ℕ) → IsLargest opening logs one → IsLargest opening logs other → (a : ℕ) → one a ≡ other a
largest_is_one opening logs one other p q a =
    let below = q.greatest one p.reached a in
    let above = p.greatest other q.reached a in
    omega arith
