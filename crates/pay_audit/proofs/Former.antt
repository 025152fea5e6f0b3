-- Where each value is one payment, a book and so a verdict is what it was.
use Rattle.std.proofs.Common.{◌≡◌, ℕ, zero, suc, ◌+◌, ◌-◌, ◌<◌, List, [], ◌∷◌, length, map, refl, ◌∙◌, ap, arith, Option}
use Rattle.std.specs.Prelude.{slice_index, option_map, unwrap_or, sum_by, take, All}
use Rattle.std.specs.Option.{option_or}
use Rattle.std.specs.List.{range_with_len}
use Rattle.std.proofs.lemmas.List.Elements.{All-head, All-tail}
use Rattle.pay_book.specs.declared.payment.Entry.{Entry}
use Rattle.pay_book.specs.Balance.{amount_of, amount_to, paid_in, paid_out, sum_below}
use Rattle.pay_book.specs.Laws.{SingleEntries}
use Rattle.pay_book.specs.Payment.{entries_of}
use Rattle.pay_book.specs.Settled.{balances_of, settled_front}
use Rattle.pay_audit.specs.Export.{ExportFields, lists_of}
use Rattle.pay_audit.specs.Former.{former_logs_of, former_front_of, former_balances_of, former_wrong_front_at, former_wrong_balance_at, HasSingles, former_verdict_of}
use Rattle.pay_audit.specs.Verdict.{book_of, first_from, fork_from, if_other, other_genesis, verdict_of, wrong_front_at, wrong_balance_at, wrong_front_of, wrong_balance_of}
use Rattle.pay_audit.specs.declared.auditing.Verdict.{Verdict}
use Rattle.pay_audit.specs.declared.auditing.Verdict.TheVariants.{Clean, WrongFront, WrongBalance}

sums_same : (n : ℕ) (f g : ℕ → ℕ) → ((k : ℕ) → k < n → f k ≡ g k) → sum_below n f ≡ sum_below n g
sums_same zero f g same = refl
sums_same (suc n) f g same =
    ap (λ s. s + f n) (sums_same n f g (λ k lt. same k (omega arith))) ∙ ap (λ x. sum_below n g + x) (same n (omega arith))

maps_same : (a n : ℕ) (f g : ℕ → ℕ) → ((k : ℕ) → k < a + n → f k ≡ g k) → map f (range_with_len a n) ≡ map g (range_with_len a n)
maps_same a zero f g same = refl
maps_same a (suc n) f g same =
    ap (λ x. x ∷ map f (range_with_len (a + 1) n)) (same a (omega arith))
    ∙ ap (λ xs. g a ∷ xs) (maps_same (a + 1) n f g (λ k lt. same k (omega arith)))

balances_same :
    (opening : List ℕ) (one other : ℕ → List Entry) (front : ℕ → ℕ) → ((a : ℕ) → a < length opening → one a ≡ other a)
    → balances_of opening one front ≡ balances_of opening other front
unfolding balances_of
balances_same opening one other front same =
    let n = length opening in
    maps_same 0 n _ _ (λ a below.
    let lt : a < n = omega arith in
    let came = sums_same n _ _ (λ owner h. ap (λ es. sum_by (amount_to a) (take (front owner) es)) (same owner h)) in
    let went = ap (λ es. sum_by amount_of (take (front a) es)) (same a lt) in
    ap (λ s. (slice_index opening a + s) - paid_out one front a) came
    ∙ ap (λ s. (slice_index opening a + paid_in n other front a) - s) went)

module _ (singles : SingleEntries) where
  front_same : (e : ExportFields) → HasSingles e → (book_of e).front ≡ former_front_of e
  front_same e single = (singles e.genesis.opening (lists_of e) single).front

  book_balances_same : (e : ExportFields) → HasSingles e → (book_of e).balances ≡ former_balances_of e
  book_balances_same e single =
      let is = singles e.genesis.opening (lists_of e) single in
      balances_same e.genesis.opening (entries_of (length e.genesis.opening) (lists_of e)) (former_logs_of e) (slice_index (settled_front e.genesis.opening (lists_of e))) is.entries
      ∙ ap (λ (front : List ℕ). balances_of e.genesis.opening (former_logs_of e) (slice_index front)) is.front

  fronts_same : (x : ℕ) (exports : List ExportFields) → All HasSingles exports → first_from wrong_front_at x exports ≡ first_from former_wrong_front_at x exports
  unfolding wrong_front_of
  fronts_same x [] single = refl
  fronts_same x (e ∷ es) single =
      ap (λ (front : List ℕ). option_or (option_map (WrongFront x) (first_from (if_other front) 0 e.front)) (first_from wrong_front_at (x + 1) es)) (front_same e (All-head HasSingles e es single))
      ∙ ap (λ (v : Option Verdict). option_or (former_wrong_front_at x e) v) (fronts_same (x + 1) es (All-tail HasSingles e es single))

  balances_judged_same : (x : ℕ) (exports : List ExportFields) → All HasSingles exports → first_from wrong_balance_at x exports ≡ first_from former_wrong_balance_at x exports
  unfolding wrong_balance_of
  balances_judged_same x [] single = refl
  balances_judged_same x (e ∷ es) single =
      ap (λ (balances : List ℕ). option_or (option_map (WrongBalance x) (first_from (if_other balances) 0 e.balances)) (first_from wrong_balance_at (x + 1) es)) (book_balances_same e (All-head HasSingles e es single))
      ∙ ap (λ (v : Option Verdict). option_or (former_wrong_balance_at x e) v) (balances_judged_same (x + 1) es (All-tail HasSingles e es single))

  pub verdict_same : (exports : List ExportFields) → All HasSingles exports → verdict_of exports ≡ former_verdict_of exports
  unfolding verdict_of
  verdict_same exports single =
      ap (λ (v : Option Verdict). unwrap_or (option_or (other_genesis exports) (option_or (option_or v (first_from wrong_balance_at 0 exports)) (fork_from 0 exports))) Clean) (fronts_same 0 exports single)
      ∙ ap (λ (v : Option Verdict). unwrap_or (option_or (other_genesis exports) (option_or (option_or (first_from former_wrong_front_at 0 exports) v) (fork_from 0 exports))) Clean) (balances_judged_same 0 exports single)
