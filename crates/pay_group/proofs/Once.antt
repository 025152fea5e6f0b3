-- Exports of which no two are of one member: of any set of members there are no more exports than members.
use Rattle.std.proofs.Common.{◌≡◌, ◌≢◌, ℕ, zero, suc, ◌+◌, ◌<◌, ◌≤◌, ◌==◌, ◌&&◌, Bool, true, false, not, cond, List, [], ◌∷◌, Some, None, if◌then◌else◌, refl, ap, subst, ⊎_elim, arith}
use Rattle.std.specs.List.{count_by, range_with_len}
use Rattle.std.proofs.lemmas.Bool.{cases_Bool, eqb-false, eqb-true, ne_eqb}
use Rattle.std.proofs.lemmas.List.Sums.{sum_by-cons}
use Rattle.std.proofs.lemmas.Option.{none-some, same_Some}
use Rattle.pay_audit.specs.Export.{ExportFields}
use Rattle.pay_audit.specs.Said.{Each}
use Rattle.pay_audit.specs.Verdict.{first_from}
use Rattle.pay_group.specs.Book.{twice_at, twice_from}
use Rattle.pay_group.specs.BookLaws.{MembersVouchOnce}
use Rattle.pay_group.specs.declared.booking.BookFault.{BookFault}
use Rattle.pay_group.specs.declared.booking.BookFault.TheVariants.{Twice}
use Rattle.pay_group.proofs.Members.{none_first, none_rest}

pub counted_more : {X : Type 0} (p : X → Bool) (x : X) (xs : List X) → count_by p (x ∷ xs) ≡ cond (p x) 1 0 + count_by p xs
counted_more p x xs = sum_by-cons (λ y. cond (p y) 1 0) x xs

-- a number for a test
abbrev pub one_if : Bool → ℕ
one_if b = cond b 1 0

-- ---- a set without one member

without : ℕ → (ℕ → Bool) → ℕ → Bool
without m set n = set n && not (n == m)

without_less : (b c : Bool) → cond (b && c) 1 0 ≤ cond b 1 0
without_less true true = omega arith
without_less true false = omega arith
without_less false c = omega arith

fewer : (m : ℕ) (set : ℕ → Bool) (xs : List ℕ) → count_by (without m set) xs ≤ count_by set xs
unfolding without
fewer m set [] = omega arith
fewer m set (x ∷ xs) =
    omega (arith, counted_more (λ n. set n && not (n == m)) x xs, counted_more set x xs, without_less (set x) (not (x == m)), fewer m set xs)

none_here : (b c : Bool) → c ≡ true → one_if (b && not c) ≡ 0
none_here true true h = refl
none_here false true h = refl
none_here b false h = absurd cc

all_here : (b c : Bool) → c ≡ false → one_if (b && not c) ≡ one_if b
all_here true false h = refl
all_here false false h = refl
all_here b true h = absurd cc

one_less : (m : ℕ) (set : ℕ → Bool) (a n : ℕ) → a ≤ m → m < a + n
    → cond (set m) 1 0 + count_by (without m set) (range_with_len a n) ≤ count_by set (range_with_len a n)
unfolding without
one_less m set a zero from to = absurd (omega (arith, from, to))
one_less m set a (suc n) from to =
    let rest = range_with_len (a + 1) n in
    let one = counted_more (λ k. set k && not (k == m)) a rest in
    let all = counted_more set a rest in
    ⊎_elim
    (λ here.
    let e : a ≡ m = eqb-true a m here in
    let none = none_here (set a) (a == m) here in
    let same : one_if (set a) ≡ one_if (set m) = ap (λ k. one_if (set k)) e in
    let few : count_by (λ k. set k && not (k == m)) rest ≤ count_by set rest = fewer m set rest in
    omega (arith, one, all, none, same, few))
    (λ there.
    let ne = eqb-false a m there in
    let some = all_here (set a) (a == m) there in
    let more = one_less m set (a + 1) n (omega (arith, from, ne)) (omega (arith, to)) in
    omega (arith, one, all, some, more))
    (cases_Bool (a == m))

-- ---- exports

others : (m : ℕ) (set : ℕ → Bool) (es : List ExportFields) → Each (λ e. e.member ≢ m) es
    → count_by (λ e. set e.member) es ≡ count_by (λ e. without m set e.member) es
unfolding without
others m set [] differ = refl
others m set (e ∷ es) differ =
    let one = counted_more (λ (e : ExportFields). set e.member) e es in
    let other = counted_more (λ (e : ExportFields). set e.member && not (e.member == m)) e es in
    let here = all_here (set e.member) (e.member == m) (ne_eqb e.member m (differ 0 e refl)) in
    let rest : count_by (λ (e : ExportFields). set e.member) es ≡ count_by (λ (e : ExportFields). set e.member && not (e.member == m)) es =
    others m set es (λ k d at. differ (suc k) d at) in
    omega (arith, one, other, here, rest)

is_none : (b : Bool) (f : BookFault) → (if b then Some f else None) ≡ None → b ≡ false
is_none true f h = absurd cc
is_none false f h = refl

different : (x m k : ℕ) (es : List ExportFields) → first_from (twice_at x m) k es ≡ None → Each (λ e. e.member ≢ m) es
different x m k [] none j e at = absurd (none-some e at)
different x m k (d ∷ es) none zero e at =
    subst (λ (e : ExportFields). e.member ≢ m) (same_Some d e at)
    (eqb-false d.member m (is_none (d.member == m) (Twice x k) (none_first (twice_at x m k d) (first_from (twice_at x m) (k + 1) es) none)))
different x m k (d ∷ es) none (suc j) e at =
    different x m (k + 1) es (none_rest (twice_at x m k d) (first_from (twice_at x m) (k + 1) es) none) j e at

once : (k : ℕ) (exports : List ExportFields) (members : ℕ) (set : ℕ → Bool) → twice_from k exports ≡ None
    → Each (λ e. e.member < members) exports
    → count_by (λ e. set e.member) exports ≤ count_by set (range_with_len 0 members)
once k [] members set none known = omega arith
once k (e ∷ es) members set none known =
    let one = counted_more (λ (e : ExportFields). set e.member) e es in
    let same = others e.member set es (different k e.member (k + 1) es (none_first (first_from (twice_at k e.member) (k + 1) es) (twice_from (k + 1) es) none)) in
    let rest = once (k + 1) es members (without e.member set) (none_rest (first_from (twice_at k e.member) (k + 1) es) (twice_from (k + 1) es) none)
    (λ j d at. known (suc j) d at) in
    let less = one_less e.member set 0 members (omega arith) (let lt = known 0 e refl in omega (arith, lt)) in
    omega (arith, one, same, rest, less)

pub vouch_once : MembersVouchOnce
vouch_once exports members set none known = once 0 exports members set none known
