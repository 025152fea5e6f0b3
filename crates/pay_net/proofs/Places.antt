-- Who makes place, and that such a one stands where all places are taken.
use Rattle.std.proofs.Common.{◌≡◌, ◌≢◌, ℕ, zero, suc, ◌+◌, ◌*◌, ◌<◌, ◌≤◌, ◌==◌, Bool, true, false, cond, nat_lt, List, [], ◌∷◌, length, get_or, Some, None, Option, refl, sym, ap, subst, ◌∙◌, arith, rules}
use Rattle.std.specs.Prelude.{IsSome, count_by, position, slice_get}
use Rattle.std.proofs.lemmas.Bool.{eqb-true, ltb-false}
use Rattle.std.proofs.lemmas.Bool.Decides.{nat_tests}
use Rattle.std.proofs.lemmas.Grind.{common_steps}
use Rattle.std.proofs.lemmas.List.Elements.{All-head, All-tail}
use Rattle.std.proofs.lemmas.List.Quantifiers.{position-Some}
use Rattle.std.proofs.lemmas.List.Sums.{fails_before_first}
use Rattle.std.proofs.lemmas.Option.{get_or_from_slice_get, slice_get-get_or}
use Rattle.pay_net.specs.Inbound.{IsCurrentOnce, has_another, is_current_of, is_nobody, is_waiting_of, waiting_beside, waits_beside, who_makes_place}
use Rattle.pay_net.specs.InboundLaws.{AreOfPeers, IsOfAnother, IsOldest}
use Rattle.pay_net.specs.declared.inbound.Inbound.{Inbound}
use Rattle.pay_net.specs.declared.inbound.Owner.{Owner}
use Rattle.pay_net.specs.declared.inbound.Owner.TheVariants.{Nobody, Peer, Current}
use Rattle.pay_net.proofs.Currents.{none_at_all, nobody, one, past_all}

-- ---- the oldest

pub oldest_at : (test : Inbound → Bool) (inbound : List Inbound) (i : ℕ) → position test inbound ≡ Some i → IsOldest test inbound i
oldest_at test inbound i is =
    let found = position-Some test inbound i nobody is in
    record {
      connection = get_or inbound i nobody;
      at = slice_get-get_or inbound i nobody found.0;
      passes = found.1;
      older = λ k g below at. sym (ap test (get_or_from_slice_get inbound k g nobody at)) ∙ found.2 k below;
    }

pub another_one_stays : (inbound : List Inbound) (i : ℕ) → who_makes_place inbound ≡ Some i → IsOldest (has_another inbound) inbound i
another_one_stays inbound i is = oldest_at (has_another inbound) inbound i is

-- ---- it isn't current

nobody_beside : (inbound : List Inbound) (peer : ℕ) → count_by (λ h. waits_beside (Current peer) h.owner) inbound ≡ 0
nobody_beside [] peer = refl
nobody_beside (g ∷ inbound) peer = nobody_beside inbound peer

not_current : (inbound : List Inbound) (owner : Owner) (peer : ℕ) → nat_lt 1 (count_by (λ h. waits_beside owner h.owner) inbound) ≡ true
    → is_current_of peer owner ≡ false
not_current inbound Nobody peer another = refl
not_current inbound (Peer p) peer another = refl
not_current inbound (Current p) peer another =
    let none = rw (nobody_beside inbound p) at another in
    cc

pub current_ones_stay : (inbound : List Inbound) (i peer : ℕ) (g : Inbound) → who_makes_place inbound ≡ Some i
    → slice_get inbound i ≡ Some g → is_current_of peer g.owner ≡ false
current_ones_stay inbound i peer g is at =
    let found = position-Some (has_another inbound) inbound i nobody is in
    let another = subst (λ (h : Inbound). has_another inbound h ≡ true) (get_or_from_slice_get inbound i g nobody at) found.1 in
    not_current inbound g.owner peer another

-- ---- how many are of peers below a number

abbrev owner_below : ℕ → Owner → Bool
owner_below n Nobody = false
owner_below n (Peer p) = nat_lt p n
owner_below n (Current p) = nat_lt p n

abbrev owner_is : ℕ → Owner → Bool
owner_is n Nobody = false
owner_is n (Peer p) = p == n
owner_is n (Current p) = p == n

abbrev is_below : ℕ → Inbound → Bool
is_below n g = owner_below n g.owner

abbrev is_of : ℕ → Inbound → Bool
is_of n g = owner_is n g.owner

count_cons : (test : Inbound → Bool) (g : Inbound) (inbound : List Inbound) → count_by test (g ∷ inbound) ≡ one (test g) + count_by test inbound
count_cons test g inbound = grind (arith, common_steps)

one_more_for : (n : ℕ) (o : Owner) → one (owner_below (n + 1) o) ≡ one (owner_below n o) + one (owner_is n o)
one_more_for n Nobody = refl
one_more_for n (Peer p) = grind (arith, nat_tests)
one_more_for n (Current p) = grind (arith, nat_tests)

one_more : (n : ℕ) (inbound : List Inbound) → count_by (is_below (n + 1)) inbound ≡ count_by (is_below n) inbound + count_by (is_of n) inbound
one_more n [] = refl
one_more n (g ∷ inbound) =
    let here = one_more_for n g.owner in
    let others = one_more n inbound in
    let count-0 = count_cons (is_below (n + 1)) g inbound in
    let count-1 = count_cons (is_below n) g inbound in
    let count-2 = count_cons (is_of n) g inbound in
    omega (arith, here, others, count-0, count-1, count-2)

none_below_for : (o : Owner) → one (owner_below 0 o) ≡ 0
none_below_for Nobody = refl
none_below_for (Peer p) = grind (arith, nat_tests)
none_below_for (Current p) = grind (arith, nat_tests)

none_below : (inbound : List Inbound) → count_by (is_below 0) inbound ≡ 0
none_below [] = refl
none_below (g ∷ inbound) =
    let here = none_below_for g.owner in
    let others = none_below inbound in
    let count-0 = count_cons (is_below 0) g inbound in
    omega (arith, here, others, count-0)

next_below : (own n below after here : ℕ) → below + 2 * one (nat_lt own n) ≤ 2 * n → after ≡ below + here → here ≤ 2 → (own ≡ n → here ≡ 0)
    → after + 2 * one (nat_lt own (suc n)) ≤ 2 * suc n
next_below own n below after here less next two none = grind (arith, nat_tests)

-- two of each of so many, without the own
few_below : (own n : ℕ) (inbound : List Inbound) → ((peer : ℕ) → count_by (is_of peer) inbound ≤ 2) → count_by (is_of own) inbound ≡ 0
    → count_by (is_below n) inbound + 2 * one (nat_lt own n) ≤ 2 * n
few_below own zero inbound few none =
    let below = none_below inbound in
    let out : 2 * one (nat_lt own 0) ≡ 0 = grind (arith, nat_tests) in
    omega (arith, below, out)
few_below own (suc n) inbound few none =
    let less = few_below own n inbound few none in
    let next : count_by (is_below (suc n)) inbound ≡ count_by (is_below n) inbound + count_by (is_of n) inbound =
    let more : n + 1 ≡ suc n = omega arith in
    subst (λ (m : ℕ). count_by (is_below m) inbound ≡ count_by (is_below n) inbound + count_by (is_of n) inbound) more (one_more n inbound) in
    let two = few n in
    next_below own n (count_by (is_below n) inbound) (count_by (is_below (suc n)) inbound) (count_by (is_of n) inbound) less next two
    (λ same. ap (λ (k : ℕ). count_by (is_of k) inbound) (sym same) ∙ none)

-- ---- nobody but peers

none_own_for : (members own : ℕ) (o : Owner) → IsOfAnother members own o → one (owner_is own o) ≡ 0
none_own_for members own Nobody is = refl
none_own_for members own (Peer p) is = let other = is.1 in grind (arith, nat_tests)
none_own_for members own (Current p) is = let other = is.1 in grind (arith, nat_tests)

none_own : (members own : ℕ) (inbound : List Inbound) → AreOfPeers members own inbound → count_by (is_of own) inbound ≡ 0
none_own members own [] are = refl
none_own members own (g ∷ inbound) are =
    let here = none_own_for members own g.owner (All-head (λ (g : Inbound). IsOfAnother members own g.owner) g inbound are) in
    let others = none_own members own inbound (All-tail (λ (g : Inbound). IsOfAnother members own g.owner) g inbound are) in
    let count-0 = count_cons (is_of own) g inbound in
    omega (arith, here, others, count-0)

below_for : (members own : ℕ) (o : Owner) → IsOfAnother members own o → one (owner_below members o) + one (is_nobody o) ≡ 1
below_for members own Nobody is = refl
below_for members own (Peer p) is = let within = is.0 in grind (arith, nat_tests)
below_for members own (Current p) is = let within = is.0 in grind (arith, nat_tests)

all_below : (members own : ℕ) (inbound : List Inbound) → AreOfPeers members own inbound
    → count_by (is_below members) inbound + count_by (λ g. is_nobody g.owner) inbound ≡ length inbound
all_below members own [] are = refl
all_below members own (g ∷ inbound) are =
    let here = below_for members own g.owner (All-head (λ (g : Inbound). IsOfAnother members own g.owner) g inbound are) in
    let others = all_below members own inbound (All-tail (λ (g : Inbound). IsOfAnother members own g.owner) g inbound are) in
    let count-0 = count_cons (is_below members) g inbound in
    let count-1 = count_cons (λ g. is_nobody g.owner) g inbound in
    omega (arith, here, others, count-0, count-1)

-- ---- current ones, and those that wait

both_for : (n : ℕ) (o : Owner) → one (owner_is n o) ≡ one (is_waiting_of n o) + one (is_current_of n o)
both_for n Nobody = refl
both_for n (Peer p) = omega arith
both_for n (Current p) = omega arith

both : (n : ℕ) (inbound : List Inbound)
    → count_by (is_of n) inbound ≡ count_by (λ g. is_waiting_of n g.owner) inbound + count_by (λ g. is_current_of n g.owner) inbound
both n [] = refl
both n (g ∷ inbound) =
    let here = both_for n g.owner in
    let others = both n inbound in
    let count-0 = count_cons (is_of n) g inbound in
    let count-1 = count_cons (λ g. is_waiting_of n g.owner) g inbound in
    let count-2 = count_cons (λ g. is_current_of n g.owner) g inbound in
    omega (arith, here, others, count-0, count-1, count-2)

same_owner : (o other : Owner) → waits_beside o other ≡ true → other ≡ o
same_owner Nobody Nobody is = refl
same_owner Nobody (Peer p) is = cc
same_owner Nobody (Current p) is = cc
same_owner (Peer p) Nobody is = cc
same_owner (Peer p) (Peer q) is = ap Peer (eqb-true q p is)
same_owner (Peer p) (Current q) is = cc
same_owner (Current p) other is = cc

one_by : (o : Owner) (inbound : List Inbound) (at : Option ℕ) → position (has_another inbound) inbound ≡ None
    → position (λ g. waits_beside o g.owner) inbound ≡ at → count_by (λ g. waits_beside o g.owner) inbound ≤ 1
one_by o inbound None lacks is =
    let none = none_at_all (λ g. waits_beside o g.owner) inbound is in
    omega (arith, none)
one_by o inbound (Some i) lacks is =
    let found = position-Some (λ g. waits_beside o g.owner) inbound i nobody is in
    let past = past_all (has_another inbound) inbound lacks in
    let fails = fails_before_first (has_another inbound) inbound i nobody (omega (arith, past, found.0)) in
    let same = same_owner o (get_or inbound i nobody).owner found.1 in
    let few = subst (λ (w : Owner). nat_lt 1 (count_by (λ h. waits_beside w h.owner) inbound) ≡ false) same fails in
    ltb-false _ _ few

-- where none makes place, of each owner one waits at most
one_waits : (o : Owner) (inbound : List Inbound) → who_makes_place inbound ≡ None → count_by (λ g. waits_beside o g.owner) inbound ≤ 1
one_waits o inbound lacks = one_by o inbound (position (λ g. waits_beside o g.owner) inbound) lacks refl

two_of_each : (inbound : List Inbound) → who_makes_place inbound ≡ None → IsCurrentOnce inbound → (peer : ℕ) → count_by (is_of peer) inbound ≤ 2
two_of_each inbound lacks once peer = omega (arith, both peer inbound, one_waits (Peer peer) inbound lacks, once peer)

stands_by : (members own : ℕ) (inbound : List Inbound) (who : Option ℕ) → own < members → AreOfPeers members own inbound → IsCurrentOnce inbound
    → 2 * members ≤ length inbound → who_makes_place inbound ≡ who → IsSome who
stands_by members own inbound (Some i) within are once taken is = search rules
stands_by members own inbound None within are once taken is =
    let less = few_below own members inbound (two_of_each inbound is once) (none_own members own inbound are) in
    let all = all_below members own inbound are in
    let strangers = one_waits Nobody inbound is in
    let two : one (nat_lt own members) ≡ 1 = grind (arith, nat_tests) in
    absurd (omega (arith, less, all, strangers, two, taken))

pub one_stands : (members own : ℕ) (inbound : List Inbound) → own < members → AreOfPeers members own inbound → IsCurrentOnce inbound
    → 2 * members ≤ length inbound
    → IsSome (who_makes_place inbound)
one_stands members own inbound within are once taken = stands_by members own inbound (who_makes_place inbound) within are once taken refl
