-- Nothing is lost, and nobody owes.
use Rattle.std.proofs.Common.{◌≡◌, ℕ, zero, suc, ◌+◌, ◌<◌, ◌≤◌, pos, ◌-ℤ◌, ◌≤ℤ◌, cond, eqb, List, [], ◌∷◌, length, take, sum, sum_by, slice_index, refl, ap, ◌∙◌, sym, subst, arith, inl, inr}
use Rattle.std.specs.Prelude.{slice_get, Option, Some, All}
use Rattle.std.proofs.lemmas.Int.{ints}
use Rattle.std.proofs.lemmas.Bool.{cases_eq, cond-true, cond-false, eq-eqb, ne_eqb}
use Rattle.std.proofs.Math.Numerals.{add-one}
use Rattle.std.proofs.lemmas.List.{take_all}
use Rattle.std.proofs.lemmas.List.Sums.{sum_by_more, sum_by-cons}
use Rattle.std.proofs.lemmas.List.Elements.{All-head, All-tail, All-take}
use Rattle.std.proofs.lemmas.Option.{slice_get_within, get_or_from_slice_get}
use Rattle.pay_book.specs.declared.payment.Entry.{Entry}
use Rattle.pay_book.specs.declared.payment.Entry.TheVariants.{Pay, Void}
use Rattle.pay_book.specs.Balance.{amount_of, amount_to, sum_below, paid_in, paid_out, balance_at, AreBalances, PayWithin, AllPayWithin}
use Rattle.pay_book.specs.Front.{Covers, Reach, Start, Step}
use Rattle.pay_book.proofs.Sums.{sum_below-same, sum_below-add, sum_below-swap, sum_below-zero, sum_below-one_more}
use Rattle.pay_book.proofs.Stepping.{paid_in-mono}
use Rattle.pay_book.proofs.Reaching.{entry_from_Covers}

-- one more entry settled
pub sum_by-take_entry : (f : Entry → ℕ) (log : List Entry) (place : ℕ) (entry : Entry) → slice_get log place ≡ Some entry → sum_by f (take (place + 1) log) ≡ sum_by f (take place log) + f entry
sum_by-take_entry f log place entry there =
    sum_by_more f log place entry (slice_get_within log place entry there) ∙ ap (λ e. sum_by f (take place log) + f e) (get_or_from_slice_get log place entry entry there)

-- what a covered entry takes is there
pub amount_of-le : (income paid : ℕ) (entry : Entry) → Covers (pos income -ℤ pos paid) (Some entry) → paid ≤ income → paid + amount_of entry ≤ income
amount_of-le income paid (Pay payee amount) c h = omega (arith, ints)
amount_of-le income paid Void c h = omega arith

pub paid_out-le : (opening : List ℕ) (logs : ℕ → List Entry) {front : ℕ → ℕ} → Reach opening logs front → (a : ℕ) → paid_out logs front a ≤ slice_index opening a + paid_in (length opening) logs front a
paid_out-le opening logs (Start {front = front} zeros) a =
    let P : ℕ → Type 0 = λ place. sum_by amount_of (take place (logs a)) ≤ slice_index opening a + paid_in (length opening) logs front a in
    subst P (sym (zeros a)) (omega arith)
paid_out-le opening logs (Step {front = before} {next = next} b r may further) a =
    let enough = paid_out-le opening logs r in
    let behind : (x : ℕ) → before x ≤ next x =
    λ x. elim (cases_eq x b) [
      | inl e ↦ (let P : ℕ → Type 0 = λ y. before y ≤ next y in let moved = further.moved in let at_b : before b ≤ next b = omega arith in subst P (sym e) at_b)
      | inr ne ↦ (let same = further.others x ne in omega arith)
    ] in
    let more = paid_in-mono (length opening) logs before next in
    elim (cases_eq a b) [
      | inl e ↦ (let P : ℕ → Type 0 = λ y. paid_out logs next y ≤ slice_index opening y + paid_in (length opening) logs next y in
          let there = entry_from_Covers (balance_at opening logs before b) (slice_get (logs b) (before b)) may.1 in
          let paid = sum_by-take_entry amount_of (logs b) (before b) there.0 there.1 in
          let Q : Option Entry → Type 0 = λ o. Covers (balance_at opening logs before b) o in
          let enough_b = amount_of-le (slice_index opening b + paid_in (length opening) logs before b) (paid_out logs before b) there.0 (subst Q there.1 may.1) (enough b) in
          let R : ℕ → Type 0 = λ place. sum_by amount_of (take place (logs b)) ≤ slice_index opening b + paid_in (length opening) logs next b in
          let more_b = more b behind in
          let at_b : sum_by amount_of (take (before b + 1) (logs b)) ≤ slice_index opening b + paid_in (length opening) logs next b = omega arith in
          subst P (sym e) (subst R (sym further.moved) at_b))
      | inr ne ↦ (let R : ℕ → Type 0 = λ place. sum_by amount_of (take place (logs a)) ≤ slice_index opening a + paid_in (length opening) logs next a in
          let more_a = more a behind in
          let enough_a = enough a in
          let at_a : sum_by amount_of (take (before a) (logs a)) ≤ slice_index opening a + paid_in (length opening) logs next a = omega arith in
          subst R (sym (further.others a ne)) at_a)
    ]

-- no balance below zero
pub balance_at-nonnegative : (opening : List ℕ) (logs : ℕ → List Entry) (front : ℕ → ℕ) → Reach opening logs front → (a : ℕ) → pos 0 ≤ℤ balance_at opening logs front a
balance_at-nonnegative opening logs front r a =
    let enough = paid_out-le opening logs r a in omega (arith, ints)

-- what one entry brings to all accounts is what it takes
amount_to-all : (accounts : ℕ) (entry : Entry) → PayWithin accounts entry → sum_below accounts (λ a. amount_to a entry) ≡ amount_of entry
amount_to-all accounts (Pay payee amount) within =
    let to_payee = cond-true (eqb payee payee) amount 0 (eq-eqb payee payee refl) in
    sum_below-one_more accounts (λ _. 0) (λ a. cond (eqb payee a) amount 0) payee amount within
    (omega arith)
    (λ a ne. cond-false (eqb payee a) amount 0 (ne_eqb payee a (λ e. ne (sym e))))
    ∙ ap (λ n. n + amount) (sum_below-zero accounts) ∙ omega arith
amount_to-all accounts Void within = sum_below-zero accounts

amounts_to-all : (accounts : ℕ) (log : List Entry) → All (PayWithin accounts) log → sum_below accounts (λ a. sum_by (amount_to a) log) ≡ sum_by amount_of log
amounts_to-all accounts [] within = sum_below-zero accounts
amounts_to-all accounts (entry ∷ log) within =
    let here = amount_to-all accounts entry (All-head (PayWithin accounts) entry log within) in
    let rest = amounts_to-all accounts log (All-tail (PayWithin accounts) entry log within) in
    sum_below-same accounts _ _ (λ a _. sum_by-cons (amount_to a) entry log)
    ∙ sum_below-add accounts (λ a. amount_to a entry) (λ a. sum_by (amount_to a) log)
    ∙ omega arith
    ∙ sym (sum_by-cons amount_of entry log)

-- what came in is what went out
pub paid_in-all : (accounts : ℕ) (logs : ℕ → List Entry) (front : ℕ → ℕ) → AllPayWithin accounts logs → sum_below accounts (paid_in accounts logs front) ≡ sum_below accounts (paid_out logs front)
paid_in-all accounts logs front within =
    sum_below-swap accounts accounts (λ a owner. sum_by (amount_to a) (take (front owner) (logs owner)))
    ∙ sum_below-same accounts _ _ (λ owner h. amounts_to-all accounts (take (front owner) (logs owner)) (All-take (PayWithin accounts) (front owner) (logs owner) (within owner h)))

-- a list's sum, place by place
sum-places_before : (xs : List ℕ) (n : ℕ) → n ≤ length xs → sum_below n (slice_index xs) ≡ sum (take n xs)
sum-places_before xs zero h = refl
sum-places_before xs (suc n) h =
    let rest = sum-places_before xs n (omega arith) in
    let more = sum_by_more (λ (x : ℕ). x) xs n 0 (omega arith) in
    let more_suc = rw add-one at more in
    omega arith

pub sum-places : (xs : List ℕ) (n : ℕ) → length xs ≡ n → sum_below n (slice_index xs) ≡ sum xs
sum-places xs n e =
    let whole = take_all n xs (omega arith) in
    sum-places_before xs n (omega arith) ∙ ap sum whole

-- The balances sum to what the accounts opened with.
pub sum-balances : (opening : List ℕ) (logs : ℕ → List Entry) (front : ℕ → ℕ) (balances : List ℕ) → AllPayWithin (length opening) logs → AreBalances opening logs front balances → sum balances ≡ sum opening
sum-balances opening logs front balances within are =
    let n = length opening in
    let moved = paid_in-all n logs front within in
    let each : (a : ℕ) → a < n → slice_index balances a + paid_out logs front a ≡ slice_index opening a + paid_in n logs front a =
    λ a h. (let exact = are.exact a h in omega (arith, ints)) in
    let all = sum_below-same n _ _ each in
    let left = sum_below-add n (slice_index balances) (paid_out logs front) in
    let right = sum_below-add n (slice_index opening) (paid_in n logs front) in
    let of_balances = sum-places balances n are.one_for_each in
    let of_opening = sum-places opening n refl in
    omega arith
