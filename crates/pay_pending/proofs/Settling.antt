-- What the loop over waiting accounts keeps: each account that may settle its next entry is on the list.
use Rattle.std.proofs.Common.{◌≡◌, ◌≢◌, ℕ, ◌+◌, ◌-◌, ◌*◌, ◌<◌, ◌≤◌, ◌^◌, ℤ, pos, ◌-ℤ◌, eqb, List, [], ◌∷◌, ◌++◌, length, take, sum, sum_by, slice_index, ap, ◌∙◌, sym, subst, refl, arith, inl, inr}
use Rattle.std.specs.Prelude.{slice_get, slice_set, Contains}
use Rattle.std.proofs.lemmas.Bool.{cases_eq, cond-false, ne_eqb}
use Rattle.std.proofs.lemmas.List.{length-append}
use Rattle.std.proofs.lemmas.List.Sums.{sum_by-set}
use Rattle.pay_book.specs.declared.payment.Entry.{Entry}
use Rattle.pay_book.specs.declared.payment.Entry.TheVariants.{Pay, Void}
use Rattle.pay_book.specs.Payment.{entries_of}
use Rattle.pay_book.specs.Balance.{amount_of, amount_to, paid_in, paid_out, balance_at, PayWithin}
use Rattle.pay_book.specs.Front.{Covers, MayStep, entry_count}
use Rattle.pay_book.specs.Book.{Standing, entries_for, MaySettle, IsBook, IsSettled, IsStep, AreCountable, CanSettle}
use Rattle.std.proofs.lemmas.List.Elements.{All-contains, Contains-push}
use Rattle.pay_book.specs.StepLaws.{StepSettlesOne, OthersMayNoMore, StuckBookIsSettled, SettledAreListed}
use Rattle.pay_pending.specs.Waiting.{IsWaitingList, KeepsWaiting, IsPaid}
use Rattle.pay_pending.proofs.Listing.{IsWaitingList-pop, still_waiting}

-- So many entries are settled since the start, and each account that may settle its next one waits.
pub record IsSettling (lists : ℕ → List (List ℕ)) (start now : Standing) (waiting : List ℕ) (settled : ℕ) : Type 0 where
  pub same_opening : now.opening ≡ start.opening
  pub countable : AreCountable lists now
  pub is : IsBook lists now
  pub count : sum start.front + settled ≡ sum now.front
  pub list : IsWaitingList (length now.opening) waiting
  pub woken : (a : ℕ) → MaySettle lists now a → Contains waiting a

-- an entry brings nothing to an account that it doesn't pay
amount_to-unpaid : (b : ℕ) (entry : Entry) → (IsPaid b entry → ⊥) → amount_to b entry ≡ 0
amount_to-unpaid b (Pay payee amount) unpaid = cond-false (eqb payee b) amount 0 (ne_eqb payee b (λ e. unpaid (sym e)))
amount_to-unpaid b Void unpaid = refl

-- at the start only the owner may
pub started : (lists : ℕ → List (List ℕ)) (start now : Standing) (owner : ℕ) (waiting : List ℕ) → now ≡ start → CanSettle lists start owner → IsWaitingList (length start.opening) waiting → Contains waiting owner → IsSettling lists start now waiting 0
started lists start now owner waiting same can list on =
    let P : Standing → Type 0 = λ b. IsSettling lists start b waiting 0 in
    let O : ℕ → Type 0 = λ a. Contains waiting a in
    subst P (sym same)
    (record {
      same_opening = refl;
      countable = can.countable;
      is = can.is;
      count = omega arith;
      list = list;
      woken = λ a may. elim (cases_eq a owner) [ inl e ↦ subst O (sym e) on | inr ne ↦ absurd (can.only_owner a ne may) ];
    })

-- the account that is taken off is there
pub is_there : (lists : ℕ → List (List ℕ)) (start now : Standing) (waiting rest : List ℕ) (settled account : ℕ) → IsSettling lists start now waiting settled → waiting ≡ rest ++ account ∷ [] → account < length now.opening
is_there lists start now waiting rest settled account inv popped =
    let P : List ℕ → Type 0 = λ xs. Contains xs account in
    All-contains (λ a. a < length now.opening) waiting account inv.list.there (subst P (sym popped) (Contains-push rest account))

-- an account that may not is taken off
pub passed_over : (lists : ℕ → List (List ℕ)) (start now next : Standing) (waiting rest : List ℕ) (settled account : ℕ) → IsSettling lists start now waiting settled → waiting ≡ rest ++ account ∷ [] → next ≡ now → (MaySettle lists now account → ⊥) → IsSettling lists start next rest settled
passed_over lists start now next waiting rest settled account inv popped same not =
    let P : Standing → Type 0 = λ b. IsSettling lists start b rest settled in
    let N : ℕ → Type 0 = λ a. MaySettle lists now a in
    subst P (sym same)
    (record {
      same_opening = inv.same_opening;
      countable = inv.countable;
      is = inv.is;
      count = inv.count;
      list = IsWaitingList-pop (length now.opening) waiting rest account popped inv.list;
      woken = λ a may. still_waiting waiting rest account a popped (inv.woken a may) (λ e. not (subst N e may));
    })

-- an account that may is taken off, settles an entry, and wakes itself and whom it paid
pub stepped : StepSettlesOne → OthersMayNoMore → (lists : ℕ → List (List ℕ)) (start now next : Standing) (waiting rest woken : List ℕ) (settled account : ℕ) (entry : Entry) → IsSettling lists start now waiting settled → waiting ≡ rest ++ account ∷ [] → IsBook lists next → IsStep lists now account entry next → IsWaitingList (length next.opening) woken → Contains woken account → ((a : ℕ) → IsPaid a entry → Contains woken a) → KeepsWaiting rest woken → IsSettling lists start next woken (settled + 1)
stepped one_more no_more lists start now next waiting rest woken settled account entry inv popped is step list on paid kept =
    let more = one_more lists now next account entry inv.is step in
    let count = inv.count in
    let C : List ℕ → Type 0 = λ o. entry_count (length o) (entries_of (length o) lists) < 2 ^ 32 in
    let O : ℕ → Type 0 = λ a. Contains woken a in
    record {
      same_opening = step.same_opening ∙ inv.same_opening;
      countable = subst C (sym step.same_opening) inv.countable;
      is = is;
      count = omega arith;
      list = list;
      woken = λ a may.
          elim (cases_eq a account) [
            | inl e ↦ subst O (sym e) on
            | inr ne ↦ others a ne may entry step paid
          ];
    }
  where
    others : (a : ℕ) → a ≢ account → MaySettle lists next a → (e : Entry) → IsStep lists now account e next → ((b : ℕ) → IsPaid b e → Contains woken b) → Contains woken a
    others a ne may (Pay payee amount) step paid =
        elim (cases_eq a payee) [
          | inl e ↦ paid a e
          | inr un ↦ kept a (still_waiting waiting rest account a popped (inv.woken a (no_more lists now next account (Pay payee amount) a inv.is step ne (amount_to-unpaid a (Pay payee amount) un) may)) ne)
        ]
    others a ne may Void step paid =
        kept a (still_waiting waiting rest account a popped (inv.woken a (no_more lists now next account Void a inv.is step ne refl may)) ne)

-- nobody waits
pub ended : StuckBookIsSettled → (lists : ℕ → List (List ℕ)) (start now : Standing) (waiting : List ℕ) (settled : ℕ) → IsSettling lists start now waiting settled → length waiting ≡ 0 → IsSettled lists now
ended stuck lists start now waiting settled inv none =
    stuck lists now inv.is (λ a may. let on = inv.woken a may in let below = on.1 in omega arith)

-- what is left to do: twice the entries that are not settled, and the accounts that wait
pub work_left : (ℕ → List (List ℕ)) → Standing → List ℕ → ℕ
work_left lists now waiting = 2 * (entry_count (length now.opening) (entries_for now lists) - sum now.front) + length waiting

pub less_work : StepSettlesOne → SettledAreListed → (lists : ℕ → List (List ℕ)) (now next after : Standing) (account : ℕ) (entry : Entry) (waiting rest woken : List ℕ) → after ≡ next → IsBook lists now → IsBook lists next → IsStep lists now account entry next → waiting ≡ rest ++ account ∷ [] → length woken ≤ length rest + 2 → work_left lists after woken < work_left lists now waiting
unfolding work_left
less_work one_more listed_all lists now next after account entry waiting rest woken e is is_next step popped longer =
    let P : Standing → Type 0 = λ b. work_left lists b woken < work_left lists now waiting in
    let more = one_more lists now next account entry is step in
    let listed = listed_all lists next is_next in
    let same = ap (λ (o : List ℕ). entry_count (length o) (entries_of (length o) lists)) step.same_opening in
    let shorter = ap length popped ∙ length-append rest (account ∷ []) in
    let less : work_left lists next woken < work_left lists now waiting = omega arith in
    subst P (sym e) less

pub fewer_waiting : (lists : ℕ → List (List ℕ)) (now next : Standing) (waiting rest : List ℕ) (account : ℕ) → next ≡ now → waiting ≡ rest ++ account ∷ [] → work_left lists next rest < work_left lists now waiting
unfolding work_left
fewer_waiting lists now next waiting rest account e popped =
    let P : Standing → Type 0 = λ b. work_left lists b rest < work_left lists now waiting in
    let shorter = ap length popped ∙ length-append rest (account ∷ []) in
    let less : work_left lists now rest < work_left lists now waiting = omega arith in
    subst P (sym e) less

-- the count fits
pub count_fits : StepSettlesOne → SettledAreListed → (lists : ℕ → List (List ℕ)) (start now next : Standing) (waiting : List ℕ) (settled account : ℕ) (entry : Entry) → IsSettling lists start now waiting settled → IsBook lists next → IsStep lists now account entry next → settled + 1 < 2 ^ 32
count_fits one_more listed_all lists start now next waiting settled account entry inv after step =
    let more = one_more lists now next account entry inv.is step in
    let listed = listed_all lists next after in
    let same = ap (λ (o : List ℕ). entry_count (length o) (entries_of (length o) lists)) step.same_opening in
    let few = inv.countable in
    let count = inv.count in
    omega arith
