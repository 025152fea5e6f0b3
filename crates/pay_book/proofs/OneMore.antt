-- What one step of a book changes.
use Rattle.std.proofs.Common.{◌≡◌, ◌≢◌, ℕ, ◌+◌, ℤ, pos, ◌-ℤ◌, List, length, take, sum, sum_by, slice_index, ap, ◌∙◌, sym, subst, arith}
use Rattle.std.specs.Prelude.{slice_get, slice_set}
use Rattle.std.proofs.lemmas.List.Sums.{sum_by-set}
use Rattle.pay_book.specs.declared.payment.Entry.{Entry}
use Rattle.pay_book.specs.Payment.{entries_of}
use Rattle.pay_book.specs.Balance.{amount_of, amount_to, paid_in, paid_out, balance_at, PayWithin}
use Rattle.pay_book.specs.Front.{Covers, MayStep}
use Rattle.pay_book.specs.Book.{Standing, entries_for, MaySettle, IsBook, IsStep}
use Rattle.pay_book.proofs.Entries.{entry-within}
use Rattle.pay_book.proofs.Computing.{set_is_further}
use Rattle.pay_book.proofs.OneStep.{paid_in-step}

-- an account that settled nothing and got nothing may settle no more than it might
pub may_no_more : (lists : ℕ → List (List ℕ)) (now next : Standing) (account : ℕ) (entry : Entry) (b : ℕ) → IsBook lists now → IsStep lists now account entry next → b ≢ account → amount_to b entry ≡ 0 → MaySettle lists next b → MaySettle lists now b
may_no_more lists now next account entry b is step ne nothing may =
    let opening = now.opening in
    let n = length opening in
    let logs = entries_for now lists in
    let front = slice_index now.front in
    let set = slice_set now.front account (slice_index now.front account + 1) in
    let len = is.one_for_each in
    let there = step.allowed.0 in
    let further = set_is_further now.front account (omega arith) in
    let M : List ℕ → List ℕ → Type 0 = λ o f. MayStep o (entries_of (length o) lists) (slice_index f) b in
    let at_opening : M opening next.front = subst (λ o. M o next.front) step.same_opening may in
    let after : M opening set = subst (M opening) step.further at_opening in
    let came : paid_in n logs (slice_index set) b ≡ paid_in n logs front b =
    (let more = paid_in-step opening logs front (slice_index set) account entry step.next further b there in
    omega arith) in
    let stays : slice_index set b ≡ front b = further.others b ne in
    let went : paid_out logs (slice_index set) b ≡ paid_out logs front b = ap (λ k. sum_by amount_of (take k (logs b))) stays in
    let balance : balance_at opening logs (slice_index set) b ≡ balance_at opening logs front b =
    ap (λ m. pos (slice_index opening b + m) -ℤ pos (paid_out logs (slice_index set) b)) came
    ∙ ap (λ m. pos (slice_index opening b + paid_in n logs front b) -ℤ pos m) went in
    let P : ℤ → Type 0 = λ z. Covers z (slice_get (logs b) (slice_index set b)) in
    let Q : ℕ → Type 0 = λ k. Covers (balance_at opening logs front b) (slice_get (logs b) k) in
    (after.0, subst Q stays (subst P balance after.1))

-- one entry more is settled
pub sum-stepped : (lists : ℕ → List (List ℕ)) (now next : Standing) (account : ℕ) (entry : Entry) → IsBook lists now → IsStep lists now account entry next → sum next.front ≡ sum now.front + 1
sum-stepped lists now next account entry is step =
    let there = step.allowed.0 in
    let len = is.one_for_each in
    let set = sum_by-set (λ (x : ℕ). x) now.front account (slice_index now.front account + 1) 0 (omega arith) in
    let same = ap sum step.further in
    omega arith

-- and it pays an account that is there
pub step_pays_within : (lists : ℕ → List (List ℕ)) (now next : Standing) (account : ℕ) (entry : Entry) → IsStep lists now account entry next → PayWithin (length next.opening) entry
step_pays_within lists now next account entry step =
    let P : List ℕ → Type 0 = λ o. PayWithin (length o) entry in
    subst P (sym step.same_opening) (entry-within (length now.opening) lists account (slice_index now.front account) entry step.allowed.0 step.next)
