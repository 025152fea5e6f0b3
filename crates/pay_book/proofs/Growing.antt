-- Longer lists: what was reached stays reached.
use Rattle.std.proofs.Common.{◌≡◌, ℕ, zero, suc, ◌+◌, ◌<◌, ◌≤◌, ℤ, pos, ◌-ℤ◌, List, [], ◌∷◌, ◌++◌, length, take, sum_by, slice_index, refl, ap, ◌∙◌, sym, subst, arith}
use Rattle.std.specs.Prelude.{slice_get, Option}
use Rattle.std.proofs.lemmas.List.{take-append-le, append-nil}
use Rattle.pay_channel.specs.Prefix.{IsPrefix}
use Rattle.pay_book.specs.declared.payment.Entry.{Entry}
use Rattle.pay_book.specs.Balance.{amount_of, amount_to, paid_in, paid_out, balance_at}
use Rattle.pay_book.specs.Front.{Covers, MayStep, Reach, Start, Step, IsLargest, AllGrow}
use Rattle.pay_book.proofs.Sums.{sum_below-same}
use Rattle.pay_book.proofs.Reaching.{Reach-within, within_from_Covers}

-- a front within the lists of these accounts
pub IsWithin : ℕ → (ℕ → List Entry) → (ℕ → ℕ) → Type 0
IsWithin accounts logs front = (a : ℕ) → a < accounts → front a ≤ length (logs a)

pub slice_get-append_left : {X : Type 0} (xs more : List X) (k : ℕ) → k < length xs → slice_get (xs ++ more) k ≡ slice_get xs k
slice_get-append_left [] more k h = absurd (omega arith)
slice_get-append_left (x ∷ xs) more zero h = refl
slice_get-append_left (x ∷ xs) more (suc k) h = slice_get-append_left xs more k (omega arith)

-- what is before a front stays
pub take-grown : {X : Type 0} (old new : List X) (k : ℕ) → IsPrefix old new → k ≤ length old → take k new ≡ take k old
take-grown old new k prefix h = ap (take k) prefix.is ∙ take-append-le k old prefix.rest h

pub paid_in-grown : (accounts : ℕ) (old new : ℕ → List Entry) (front : ℕ → ℕ) (a : ℕ) → AllGrow accounts old new → ((b : ℕ) → b < accounts → front b ≤ length (old b)) → paid_in accounts new front a ≡ paid_in accounts old front a
paid_in-grown accounts old new front a grow within =
    sum_below-same accounts _ _ (λ owner h. ap (sum_by (amount_to a)) (take-grown (old owner) (new owner) (front owner) (grow owner h) (within owner h)))

pub balance_at-grown : (opening : List ℕ) (old new : ℕ → List Entry) (front : ℕ → ℕ) (a : ℕ) → AllGrow (length opening) old new → ((b : ℕ) → b < length opening → front b ≤ length (old b)) → a < length opening → balance_at opening new front a ≡ balance_at opening old front a
balance_at-grown opening old new front a grow within h =
    let came = paid_in-grown (length opening) old new front a grow within in
    let went = ap (sum_by amount_of) (take-grown (old a) (new a) (front a) (grow a h) (within a h)) in
    ap (λ n. pos (slice_index opening a + n) -ℤ pos (paid_out new front a)) came
    ∙ ap (λ n. pos (slice_index opening a + paid_in (length opening) old front a) -ℤ pos n) went

-- an account may do over longer lists what it might over the shorter
pub MayStep-grown : (opening : List ℕ) (old new : ℕ → List Entry) (front : ℕ → ℕ) (a : ℕ) → AllGrow (length opening) old new → ((b : ℕ) → b < length opening → front b ≤ length (old b)) → MayStep opening old front a → MayStep opening new front a
MayStep-grown opening old new front a grow within may =
    let inside = within_from_Covers (balance_at opening old front a) (old a) (front a) may.1 in
    let next : slice_get (new a) (front a) ≡ slice_get (old a) (front a) =
    ap (λ log. slice_get log (front a)) (grow a may.0).is ∙ slice_get-append_left (old a) (grow a may.0).rest (front a) inside in
    let P : ℤ → Type 0 = λ b. Covers b (slice_get (old a) (front a)) in
    let Q : Option Entry → Type 0 = λ o. Covers (balance_at opening new front a) o in
    (may.0, subst Q (sym next) (subst P (sym (balance_at-grown opening old new front a grow within may.0)) may.1))

-- an account whose list stayed the same may do no more than it might
pub MayStep-same_list : (opening : List ℕ) (old new : ℕ → List Entry) (front : ℕ → ℕ) (a : ℕ) → AllGrow (length opening) old new → ((b : ℕ) → b < length opening → front b ≤ length (old b)) → new a ≡ old a → MayStep opening new front a → MayStep opening old front a
MayStep-same_list opening old new front a grow within same may =
    let P : ℤ → Type 0 = λ b. Covers b (slice_get (new a) (front a)) in
    let Q : List Entry → Type 0 = λ log. Covers (balance_at opening old front a) (slice_get log (front a)) in
    (may.0, subst Q same (subst P (balance_at-grown opening old new front a grow within may.0) may.1))

pub Reach-grown : (opening : List ℕ) (old new : ℕ → List Entry) {front : ℕ → ℕ} → AllGrow (length opening) old new → Reach opening old front → Reach opening new front
Reach-grown opening old new grow (Start zeros) = Start zeros
Reach-grown opening old new grow (Step {front = before} a r may further) =
    Step a (Reach-grown opening old new grow r) (MayStep-grown opening old new before a grow (λ b _. Reach-within opening old r b) may) further

-- the largest front is nowhere behind that of shorter lists
pub largest_grows : (opening : List ℕ) (old new : ℕ → List Entry) (before after : ℕ → ℕ) → AllGrow (length opening) old new → IsLargest opening old before → IsLargest opening new after → (a : ℕ) → before a ≤ after a
largest_grows opening old new before after grow p q = q.greatest before (Reach-grown opening old new grow p.reached)

-- lists that are the same for these accounts grow into each other
pub AllGrow-same : {X : Type 0} (accounts : ℕ) (old new : ℕ → List X) → ((a : ℕ) → a < accounts → new a ≡ old a) → AllGrow accounts old new
AllGrow-same accounts old new same a h = record { rest = []; is = same a h ∙ sym (append-nil (old a)) }

pub largest-same : (opening : List ℕ) (one other : ℕ → List Entry) (p q : ℕ → ℕ) → ((a : ℕ) → a < length opening → one a ≡ other a) → IsLargest opening one p → IsLargest opening other q → (a : ℕ) → p a ≡ q a
largest-same opening one other p q same at_p at_q a =
    let up = largest_grows opening one other p q (AllGrow-same (length opening) one other (λ b h. sym (same b h))) at_p at_q a in
    let down = largest_grows opening other one q p (AllGrow-same (length opening) other one same) at_q at_p a in
    omega arith

pub balance_at-same : (opening : List ℕ) (one other : ℕ → List Entry) (front : ℕ → ℕ) → ((a : ℕ) → a < length opening → one a ≡ other a) → (a : ℕ) → a < length opening → balance_at opening one front a ≡ balance_at opening other front a
balance_at-same opening one other front same a h =
    let came : paid_in (length opening) one front a ≡ paid_in (length opening) other front a =
    sum_below-same (length opening) _ _ (λ owner below. ap (λ log. sum_by (amount_to a) (take (front owner) log)) (same owner below)) in
    let went : paid_out one front a ≡ paid_out other front a = ap (λ log. sum_by amount_of (take (front a) log)) (same a h) in
    ap (λ n. pos (slice_index opening a + n) -ℤ pos (paid_out one front a)) came
    ∙ ap (λ n. pos (slice_index opening a + paid_in (length opening) other front a) -ℤ pos n) went
