-- A book after one entry more is still a book.
use Rattle.std.proofs.Common.{◌≡◌, ℕ, ◌+◌, ◌<◌, ◌≤◌, ◌^◌, ℤ, pos, cond, eqb, List, length, take, sum_by, slice_index, ap, ◌∙◌, sym, subst, arith, inl, inr}
use Rattle.std.specs.Prelude.{slice_get, slice_set, Option, Some}
use Rattle.std.proofs.lemmas.Int.{ints}
use Rattle.std.proofs.lemmas.Bool.{cases_eq, cond-true, cond-false, eq-eqb, ne_eqb}
use Rattle.std.proofs.lemmas.List.{length-set}
use Rattle.pay_book.specs.declared.payment.Entry.{Entry}
use Rattle.pay_book.specs.declared.payment.Entry.TheVariants.{Pay, Void}
use Rattle.pay_book.specs.Balance.{amount_of, amount_to, paid_in, paid_out, balance_at, MovesAmount}
use Rattle.pay_book.specs.Front.{Covers, MayStep, IsOneFurther, Step}
use Rattle.pay_book.specs.Payment.{count_in}
use Rattle.pay_book.specs.Places.{Place, place_in}
use Rattle.pay_book.specs.Book.{Standing, entries_for, IsBook, AreCountable}
use Rattle.pay_book.proofs.Sums.{sum_below-one_more, sum_below-at}
use Rattle.pay_book.proofs.Placing.{ArePlaces-stepped}
use Rattle.pay_book.proofs.Conserving.{sum_by-take_entry}
use Rattle.pay_book.proofs.Computing.{set_is_further}

-- a balance that has the amount covers the entry
pub Covers-from_amount : (balance : ℕ) (exact : ℤ) (entry : Entry) → pos balance ≡ exact → amount_of entry ≤ balance → Covers exact (Some entry)
Covers-from_amount balance exact (Pay payee amount) e h = omega (arith, ints)
Covers-from_amount balance exact Void e h = tt

-- one entry more of an account: what it brings to another, and what it takes from its own
module _ (opening : List ℕ) (logs : ℕ → List Entry) (front next : ℕ → ℕ) (a : ℕ) (entry : Entry) (there : slice_get (logs a) (front a) ≡ Some entry) (further : IsOneFurther front a next) where
  pub paid_in-step : (b : ℕ) → a < length opening → paid_in (length opening) logs next b ≡ paid_in (length opening) logs front b + amount_to b entry
  paid_in-step b h =
      sum_below-one_more (length opening) (λ owner. sum_by (amount_to b) (take (front owner) (logs owner))) (λ owner. sum_by (amount_to b) (take (next owner) (logs owner))) a (amount_to b entry) h
      (ap (λ k. sum_by (amount_to b) (take k (logs a))) further.moved ∙ sum_by-take_entry (amount_to b) (logs a) (front a) entry there)
      (λ owner ne. ap (λ k. sum_by (amount_to b) (take k (logs owner))) (further.others owner ne))

  pub paid_out-step : (b : ℕ) → paid_out logs next b ≡ paid_out logs front b + cond (eqb b a) (amount_of entry) 0
  paid_out-step b =
      elim (cases_eq b a) [
        | inl e ↦
            (let P : ℕ → Type 0 = λ x. paid_out logs next x ≡ paid_out logs front x + amount_of entry in
            let at_a : paid_out logs next a ≡ paid_out logs front a + amount_of entry =
            ap (λ k. sum_by amount_of (take k (logs a))) further.moved ∙ sum_by-take_entry amount_of (logs a) (front a) entry there in
            let same = cond-true (eqb b a) (amount_of entry) 0 (eq-eqb b a e) in
            let at_b : paid_out logs next b ≡ paid_out logs front b + amount_of entry = subst P (sym e) at_a in
            omega arith)
        | inr ne ↦
            (let same = cond-false (eqb b a) (amount_of entry) 0 (ne_eqb b a ne) in
            let kept = ap (λ k. sum_by amount_of (take k (logs b))) (further.others b ne) in
            omega arith)
      ]

-- the same at a book's lists
book_after : (lists : ℕ → List (List ℕ)) (old : Standing) (account : ℕ) (entry : Entry) (balances : List ℕ) → IsBook lists old → account < length old.opening → slice_get (entries_for old lists account) (slice_index old.front account) ≡ Some entry → amount_of entry ≤ slice_index old.balances account → length balances ≡ length old.opening → MovesAmount entry account old.balances balances → IsBook lists (record { opening = old.opening; front = slice_set old.front account (slice_index old.front account + 1); balances = balances; places = slice_set old.places account (place_in count_in (lists account) (slice_index old.front account + 1)) })
book_after lists old account entry balances is h there covered one_for_each moves =
    let logs = entries_for old lists in
    let n = length old.opening in
    let front = slice_index old.front in
    let next = slice_index (slice_set old.front account (slice_index old.front account + 1)) in
    let len = is.one_for_each in
    let further = set_is_further old.front account (omega arith) in
    let C : Option Entry → Type 0 = λ o. Covers (balance_at old.opening logs front account) o in
    let may : MayStep old.opening logs front account =
    (h, subst C (sym there) (Covers-from_amount (slice_index old.balances account) (balance_at old.opening logs front account) entry (is.are.exact account h) covered)) in
    record {
      reached = Step {front = front} {next = next} account is.reached may further;
      one_for_each = length-set old.front account (slice_index old.front account + 1) ∙ len;
      are = record {
        one_for_each = one_for_each;
        exact = λ b below.
            (let came = paid_in-step old.opening logs front next account entry there further b h in
            let went = paid_out-step old.opening logs front next account entry there further b in
            let was = is.are.exact b below in
            let moved = moves b in
            omega (arith, ints));
      };
      placed = ArePlaces-stepped n lists front next old.places account h further is.placed;
    }

pub IsBook-stepped : (lists : ℕ → List (List ℕ)) (old new : Standing) (account : ℕ) (entry : Entry) (place : Place) → IsBook lists old → account < length old.opening → slice_get (entries_for old lists account) (slice_index old.front account) ≡ Some entry → amount_of entry ≤ slice_index old.balances account → place ≡ place_in count_in (lists account) (slice_index old.front account + 1) → new.opening ≡ old.opening → new.front ≡ slice_set old.front account (slice_index old.front account + 1) → length new.balances ≡ length old.opening → MovesAmount entry account old.balances new.balances → new.places ≡ slice_set old.places account place → IsBook lists new
IsBook-stepped lists old new account entry place is h there covered reached same_opening front one_for_each moves places =
    let P : List ℕ → Type 0 = λ o. IsBook lists (record { opening = o; front = new.front; balances = new.balances; places = new.places }) in
    let Q : List ℕ → Type 0 = λ f. IsBook lists (record { opening = old.opening; front = f; balances = new.balances; places = new.places }) in
    let R : List Place → Type 0 = λ w. IsBook lists (record { opening = old.opening; front = slice_set old.front account (slice_index old.front account + 1); balances = new.balances; places = w }) in
    let moved = places ∙ ap (slice_set old.places account) reached in
    subst P (sym same_opening) (subst Q (sym front) (subst R (sym moved) (book_after lists old account entry new.balances is h there covered one_for_each moves)))

-- a count of 32 bits has room for one entry more
pub room_for_entry : (lists : ℕ → List (List ℕ)) (book : Standing) (account : ℕ) → AreCountable lists book → account < length book.opening → slice_index book.front account < length (entries_for book lists account) → slice_index book.front account + 1 < 2 ^ 32
room_for_entry lists book account countable h there =
    let one = sum_below-at (length book.opening) (λ a. length (entries_for book lists a)) account h in
    omega arith
