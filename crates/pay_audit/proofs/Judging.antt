-- Numbers compared place by place with those of a book.
use Rattle.std.proofs.Common.{◌≡◌, ◌↔◌, ℕ, zero, suc, ◌+◌, ◌<◌, ◌==◌, pos, List, [], ◌∷◌, length, slice_index, Bool, true, false, Option, Some, None, if◌then◌else◌, refl, ap, sym, subst, ◌∙◌, arith}
use Rattle.std.specs.Option.{option_or}
use Rattle.std.proofs.lemmas.Bool.{eqb-true, eq-eqb}
use Rattle.std.proofs.lemmas.List.{ext_get_or}
use Rattle.pay_book.specs.Balance.{AreBalances}
use Rattle.pay_book.specs.Front.{IsLargest}
use Rattle.pay_book.specs.Laws.{LargestIsComputed, LargestIsOne, SettledBookExists}
use Rattle.pay_audit.specs.Export.{ExportFields, IsExport, lists_of}
use Rattle.pay_audit.specs.Verdict.{book_of, first_from, if_other, wrong_balance_of, wrong_front_of}
use Rattle.pay_audit.specs.Laws.{HasRightBalances, HasRightFront, logs_of}

-- ---- no number differs

pub first_same : (b : Bool) (place : ℕ) (rest : Option ℕ) → option_or (if b then None else Some place) rest ≡ None → b ≡ true
first_same true place rest h = refl
first_same false place rest h = absurd cc

pub rest_none : (b : Bool) (place : ℕ) (rest : Option ℕ) → option_or (if b then None else Some place) rest ≡ None → rest ≡ None
rest_none true place rest h = h
rest_none false place rest h = absurd cc

pub both_none : (b : Bool) (place : ℕ) (rest : Option ℕ) → b ≡ true → rest ≡ None → option_or (if b then None else Some place) rest ≡ None
both_none true place rest e h = h
both_none false place rest e h = absurd cc

none_at : (right : List ℕ) (k : ℕ) (ns : List ℕ) → first_from (if_other right) k ns ≡ None → (i : ℕ) → i < length ns
    → slice_index ns i ≡ slice_index right (k + i)
none_at right k [] h i below = absurd (omega arith)
none_at right k (n ∷ ns) h zero below =
    let same : n ≡ slice_index right k = eqb-true n (slice_index right k) (first_same (n == slice_index right k) k (first_from (if_other right) (k + 1) ns) h) in
    same ∙ ap (slice_index right) (let e : k ≡ k + 0 = omega arith in e)
none_at right k (n ∷ ns) h (suc i) below =
    none_at right (k + 1) ns (rest_none (n == slice_index right k) k (first_from (if_other right) (k + 1) ns) h) i (omega arith)
    ∙ ap (slice_index right) (let e : k + 1 + i ≡ k + suc i = omega arith in e)

at_none : (right : List ℕ) (k : ℕ) (ns : List ℕ) → ((i : ℕ) → i < length ns → slice_index ns i ≡ slice_index right (k + i))
    → first_from (if_other right) k ns ≡ None
at_none right k [] same = refl
at_none right k (n ∷ ns) same =
    let here : n ≡ slice_index right k = same 0 (omega arith) ∙ ap (slice_index right) (let e : k + 0 ≡ k = omega arith in e) in
    both_none (n == slice_index right k) k (first_from (if_other right) (k + 1) ns) (eq-eqb n (slice_index right k) here)
    (at_none right (k + 1) ns (λ i below. same (suc i) (omega arith) ∙ ap (slice_index right) (let e : k + suc i ≡ k + 1 + i = omega arith in e)))

same_list : (right ns : List ℕ) → length ns ≡ length right → first_from (if_other right) 0 ns ≡ None → ns ≡ right
same_list right ns long h =
    ext_get_or 0 ns right long (λ i below. none_at right 0 ns h i below ∙ ap (slice_index right) (let e : 0 + i ≡ i = omega arith in e))

none_of_same : (right ns : List ℕ) → ns ≡ right → first_from (if_other right) 0 ns ≡ None
none_of_same right ns e = at_none right 0 ns (λ i below. ap (λ (l : List ℕ). slice_index l i) e ∙ ap (slice_index right) (let f : i ≡ 0 + i = omega arith in f))

-- ---- fronts

pub front_is : LargestIsComputed → (e : ExportFields) → IsExport e → wrong_front_of e ≡ None → e.front ≡ (book_of e).front
unfolding wrong_front_of
front_is computed e x h =
    same_list (book_of e).front e.front (x.front ∙ sym (x.genesis.opening) ∙ sym (computed e.genesis.opening (logs_of e)).0) h

pub right_front : LargestIsComputed → LargestIsOne → (e : ExportFields) → IsExport e → (wrong_front_of e ≡ None) ↔ HasRightFront e
unfolding wrong_front_of
right_front computed one e x = (
  λ h. subst (λ (f : List ℕ). IsLargest e.genesis.opening (logs_of e) (slice_index f)) (sym (front_is computed e x h)) (computed e.genesis.opening (logs_of e)).1,
  λ h. none_of_same (book_of e).front e.front
      (ext_get_or 0 e.front (book_of e).front (x.front ∙ sym (x.genesis.opening) ∙ sym (computed e.genesis.opening (logs_of e)).0)
      (λ i below. one e.genesis.opening (logs_of e) (slice_index e.front) (slice_index (book_of e).front) h (computed e.genesis.opening (logs_of e)).1 i)),
)

-- ---- balances

pub pos_is : (a b : ℕ) → pos a ≡ pos b → a ≡ b
pos_is a b h = cc

pub right_balances : LargestIsComputed → SettledBookExists → (e : ExportFields) → IsExport e → wrong_front_of e ≡ None
    → (wrong_balance_of e ≡ None) ↔ HasRightBalances e
unfolding wrong_balance_of
right_balances computed exists e x right =
    let book = exists e.genesis.opening (lists_of e) in
    let long : length e.balances ≡ length (book_of e).balances = x.balances ∙ sym (x.genesis.opening) ∙ sym book.is.are.one_for_each in
    let At : List ℕ → Type 0 = λ f. AreBalances e.genesis.opening (logs_of e) (slice_index f) (book_of e).balances in
    let are : At e.front = subst At (sym (front_is computed e x right)) book.is.are in
    let Shows : List ℕ → Type 0 = λ b. AreBalances e.genesis.opening (logs_of e) (slice_index e.front) b in (
      λ h. subst Shows (sym (same_list (book_of e).balances e.balances long h)) are,
      λ h. none_of_same (book_of e).balances e.balances
          (ext_get_or 0 e.balances (book_of e).balances long
          (λ i below. let within : i < length e.genesis.opening = omega (arith, x.balances, x.genesis.opening) in
          pos_is (slice_index e.balances i) (slice_index (book_of e).balances i) (h.exact i within ∙ sym (are.exact i within)))),
    )
