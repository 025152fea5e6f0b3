-- A list of liars: its tests, and what they say.
use Rattle.std.proofs.Common.{◌≡◌, ◌≢◌, ℕ, ◌<◌, ◌≤◌, ◌==◌, ◌||◌, ◌↔◌, nat_eq, nat_lt, Bool, true, false, List, [], ◌∷◌, All, length, Option, Some, None, cond, refl, arith, ◌∙◌}
use Rattle.std.specs.Bool.{Decides}
use Rattle.std.specs.List.{AllPairs, AllByRecursion, IsDistinct, list_all}
use Rattle.std.proofs.lemmas.Bool.Decides.{nat_tests, Decides-eqb, Decides-ltb, Decides-by_and}
use Rattle.std.proofs.lemmas.Map.Made.{AllPairs-from_IsDistinct, IsDistinct-from_AllPairs}
use Rattle.pay_world.specs.declared.liars.LiarFault.{LiarFault}
use Rattle.pay_world.specs.declared.liars.LiarFault.TheVariants.{Unknown, Twice, TooMany}
use Rattle.pay_world.specs.Liars.{LiarFields, AreMembers, LiarsAreDistinct, AreLiars, is_listed, has_twice, liar_fault}

or_false : (a b : Bool) → (a || b) ≡ false → (a ≡ false) × (b ≡ false)
or_false a b h = elim a as (λ v. (v || b) ≡ false → (v ≡ false) × (b ≡ false)) [ true ↦ (λ p. cc) | false ↦ (λ p. (refl, p)) ] h

eq_flip : (x y : ℕ) → (x == y) ≡ (y == x)
eq_flip x y = grind (arith, nat_tests)

apart : (xs : List ℕ) (x : ℕ) → is_listed xs x ≡ false → AllByRecursion (λ y. nat_eq x y ≡ false) xs
apart [] x h = tt
apart (y ∷ ys) x h =
    let parts = or_false (y == x) (is_listed ys x) h in
    (eq_flip x y ∙ parts.0, apart ys x parts.1)

not_listed : (xs : List ℕ) (x : ℕ) → AllByRecursion (λ y. nat_eq x y ≡ false) xs → is_listed xs x ≡ false
not_listed [] x h = refl
not_listed (y ∷ ys) x h =
    let here : (y == x) ≡ false = eq_flip y x ∙ h.0 in
    let there : is_listed ys x ≡ false = not_listed ys x h.1 in
    rw (here, there)

once_each : (xs : List ℕ) → has_twice xs ≡ false → IsDistinct nat_eq xs
unfolding IsDistinct
once_each [] h = tt
once_each (x ∷ xs) h =
    let parts = or_false (is_listed xs x) (has_twice xs) h in
    (apart xs x parts.0, once_each xs parts.1)

none_twice : (xs : List ℕ) → IsDistinct nat_eq xs → has_twice xs ≡ false
unfolding IsDistinct
none_twice [] h = refl
none_twice (x ∷ xs) h =
    let here = not_listed xs x h.0 in
    let there = none_twice xs h.1 in
    rw (here, there)

-- the test of twice says no exactly where all pairs differ
pub pairs_differ : (xs : List ℕ) → has_twice xs ≡ false → AllPairs (λ i j. i ≢ j) xs
pairs_differ xs h = AllPairs-from_IsDistinct {eq = nat_eq} Decides-eqb xs (once_each xs h)

pub pairs_once : (xs : List ℕ) → AllPairs (λ i j. i ≢ j) xs → has_twice xs ≡ false
pairs_once xs h = none_twice xs (IsDistinct-from_AllPairs {eq = nat_eq} Decides-eqb xs h)

members_decided : (n : ℕ) (xs : List ℕ) → Decides (list_all (λ i. nat_lt i n) xs) (All (λ i. i < n) xs)
members_decided n xs = Decides-by_and (λ i. nat_lt i n) (λ i. i < n) (list_all (λ i. nat_lt i n)) (λ i. Decides-ltb i n) refl (λ _ _. refl) xs

-- ---- the first fault, by three tests

abbrev first_fault : Bool → Bool → Bool → Option LiarFault
first_fault known twice many = cond known (cond twice (Some Twice) (cond many (Some TooMany) None)) (Some Unknown)

is_none : (k t m : Bool) → first_fault k t m ≡ None → (k ≡ true) × (t ≡ false) × (m ≡ false)
is_none true true m h = cc
is_none true false true h = cc
is_none true false false h = (refl, refl, refl)
is_none false t m h = cc

is_unknown : (k t m : Bool) → first_fault k t m ≡ Some Unknown → k ≡ false
is_unknown true true m h = cc
is_unknown true false true h = cc
is_unknown true false false h = cc
is_unknown false t m h = refl

is_twice : (k t m : Bool) → first_fault k t m ≡ Some Twice → (k ≡ true) × (t ≡ true)
is_twice true true m h = (refl, refl)
is_twice true false true h = cc
is_twice true false false h = cc
is_twice false t m h = cc

is_many : (k t m : Bool) → first_fault k t m ≡ Some TooMany → (k ≡ true) × (t ≡ false) × (m ≡ true)
is_many true true m h = cc
is_many true false true h = (refl, refl, refl)
is_many true false false h = cc
is_many false t m h = cc

true_unless : (b : Bool) → (b ≡ false → ⊥) → b ≡ true
true_unless true h = refl
true_unless false h = absurd (h refl)

false_unless : (b : Bool) → (b ≡ true → ⊥) → b ≡ false
false_unless true h = absurd (h refl)
false_unless false h = refl

both : {b : Bool} → b ≡ true → b ≡ false → ⊥
both t f = cc

-- ---- the laws

pub no_fault : (l : LiarFields) → (liar_fault l ≡ None) ↔ AreLiars l
no_fault l =
    let k = list_all (λ i. nat_lt i l.members) l.liars in
    let t = has_twice l.liars in
    let m = nat_lt l.faults (length l.liars) in (
      (λ h.
          let parts = is_none k t m h in
          record {
            known = (members_decided l.members l.liars).0 parts.0;
            once = pairs_differ l.liars parts.1;
            few = (let n = parts.2 in grind (arith, nat_tests));
          }),
      (λ are.
          let known : k ≡ true = (members_decided l.members l.liars).1 are.known in
          let once : t ≡ false = pairs_once l.liars are.once in
          let few : m ≡ false = (let f = are.few in grind (arith, nat_tests)) in
          λ i. first_fault (known i) (once i) (few i)),
    )

pub unknown_fault : (l : LiarFields) → (liar_fault l ≡ Some Unknown) ↔ (¬ (AreMembers l))
unknown_fault l =
    let k = list_all (λ i. nat_lt i l.members) l.liars in
    let t = has_twice l.liars in
    let m = nat_lt l.faults (length l.liars) in (
      (λ h members. both ((members_decided l.members l.liars).1 members) (is_unknown k t m h)),
      (λ unknown.
          let known : k ≡ false = false_unless k (λ all. unknown ((members_decided l.members l.liars).0 all)) in
          λ i. first_fault (known i) t m),
    )

pub twice_fault : (l : LiarFields) → (liar_fault l ≡ Some Twice) ↔ (AreMembers l × ¬ (LiarsAreDistinct l))
twice_fault l =
    let k = list_all (λ i. nat_lt i l.members) l.liars in
    let t = has_twice l.liars in
    let m = nat_lt l.faults (length l.liars) in (
      (λ h.
          let parts = is_twice k t m h in
          ((members_decided l.members l.liars).0 parts.0, (λ distinct. both parts.1 (pairs_once l.liars distinct)))),
      (λ are.
          let known : k ≡ true = (members_decided l.members l.liars).1 are.0 in
          let twice : t ≡ true = true_unless t (λ none. are.1 (pairs_differ l.liars none)) in
          λ i. first_fault (known i) (twice i) m),
    )

pub many_fault : (l : LiarFields) → (liar_fault l ≡ Some TooMany) ↔ (AreMembers l × LiarsAreDistinct l × (l.faults < length l.liars))
many_fault l =
    let k = list_all (λ i. nat_lt i l.members) l.liars in
    let t = has_twice l.liars in
    let m = nat_lt l.faults (length l.liars) in (
      (λ h.
          let parts = is_many k t m h in
          ((members_decided l.members l.liars).0 parts.0, pairs_differ l.liars parts.1, (let n = parts.2 in grind (arith, nat_tests)))),
      (λ are.
          let known : k ≡ true = (members_decided l.members l.liars).1 are.0 in
          let once : t ≡ false = pairs_once l.liars are.1 in
          let many : m ≡ true = (let f = are.2 in grind (arith, nat_tests)) in
          λ i. first_fault (known i) (once i) (many i)),
    )

-- what the three tests say where none of them finds a fault
pub passed : (l : LiarFields) → list_all (λ i. nat_lt i l.members) l.liars ≡ true → has_twice l.liars ≡ false → length l.liars ≤ l.faults → AreLiars l
passed l known once few =
    record {
      known = (members_decided l.members l.liars).0 known;
      once = pairs_differ l.liars once;
      few = few;
    }
