-- What an account may do at a front, and what that depends on.
use Rattle.std.proofs.Common.{◌≡◌, ℕ, ◌+◌, ◌≤◌, pos, ◌-ℤ◌, List, length, take, sum_by, slice_index, subst, arith}
use Rattle.std.specs.Prelude.{slice_get, Option, Some, None}
use Rattle.std.proofs.lemmas.Int.{ints}
use Rattle.std.proofs.lemmas.List.{take-take}
use Rattle.std.proofs.lemmas.List.Sums.{sum_by-take-le}
use Rattle.pay_book.specs.declared.payment.Entry.{Entry}
use Rattle.pay_book.specs.declared.payment.Entry.TheVariants.{Pay, Void}
use Rattle.pay_book.specs.Balance.{amount_of, amount_to, paid_in, paid_out}
use Rattle.pay_book.specs.Front.{Covers, MayStep}
use Rattle.pay_book.proofs.Sums.{sum_below-le}

-- more entries settled, more paid
pub sum_by-take-mono : (f : Entry → ℕ) (m n : ℕ) (log : List Entry) → m ≤ n → sum_by f (take m log) ≤ sum_by f (take n log)
sum_by-take-mono f m n log h = rw (← take-take m n log h) (sum_by-take-le f (take n log) m)

pub paid_in-mono : (accounts : ℕ) (logs : ℕ → List Entry) (low high : ℕ → ℕ) (a : ℕ) → ((b : ℕ) → low b ≤ high b) → paid_in accounts logs low a ≤ paid_in accounts logs high a
paid_in-mono accounts logs low high a h =
    sum_below-le accounts _ _ (λ owner _. sum_by-take-mono (amount_to a) (low owner) (high owner) (logs owner) (h owner))

-- more income and the same payments cover what less income covered
pub Covers-mono : (more less paid : ℕ) (next : Option Entry) → less ≤ more → Covers (pos less -ℤ pos paid) next → Covers (pos more -ℤ pos paid) next
Covers-mono more less paid None h c = c
Covers-mono more less paid (Some Void) h c = c
Covers-mono more less paid (Some (Pay payee amount)) h c = omega (arith, ints)

-- The heart of the book: where others have settled no less and the account itself stands where it stood, it may still do what it might.
pub MayStep-mono : (opening : List ℕ) (logs : ℕ → List Entry) (low high : ℕ → ℕ) (a : ℕ) → ((b : ℕ) → low b ≤ high b) → low a ≡ high a → MayStep opening logs low a → MayStep opening logs high a
MayStep-mono opening logs low high a h e step =
    let more = paid_in-mono (length opening) logs low high a h in
    let at_low = Covers-mono (slice_index opening a + paid_in (length opening) logs high a) (slice_index opening a + paid_in (length opening) logs low a) (paid_out logs low a) (slice_get (logs a) (low a)) (omega arith) step.1 in
    (step.0, subst (λ place. Covers (pos (slice_index opening a + paid_in (length opening) logs high a) -ℤ pos (sum_by amount_of (take place (logs a)))) (slice_get (logs a) place)) e at_low)
