-- One connection of each peer at most is current, whoever enters, leaves or asks.
use Rattle.std.proofs.Common.{◌≡◌, ℕ, zero, suc, ◌+◌, ◌<◌, ◌≤◌, ◌==◌, ◌&&◌, ◌++◌, Bool, true, false, cond, List, [], ◌∷◌, length, take, drop, get_or, Option, Some, None, IfSome, refl, sym, ap, ◌∙◌, subst, arith, rules, add-one, position}
use Rattle.std.specs.List.{count_by, remove, position_or_len}
use Rattle.std.specs.Prelude.{slice_set}
use Rattle.std.proofs.lemmas.Bool.{eqb-true}
use Rattle.std.proofs.lemmas.Grind.{common_steps}
use Rattle.std.proofs.lemmas.List.{take-append-drop, take_all}
use Rattle.std.proofs.lemmas.List.Quantifiers.{position-Some}
use Rattle.std.proofs.lemmas.List.Sums.{sum_by-append, sum_by-set, count_by_more_no, count_by_more_yes, fails_before_first}
use Rattle.std.proofs.lemmas.Option.{slice_get-get_or}
use Rattle.pay_net.specs.declared.inbound.Inbound.{Inbound}
use Rattle.pay_net.specs.declared.inbound.Owner.{Owner}
use Rattle.pay_net.specs.declared.inbound.Owner.TheVariants.{Nobody, Peer, Current}
use Rattle.pay_net.specs.Inbound.{IsCurrentOnce, is_current_of, is_nobody, list_with_claim, list_with_current, list_with_owner, list_without_current, stands_at, without}

pub nobody : Inbound
nobody = record { place = 0; owner = Nobody }

abbrev pub one : Bool → ℕ
one b = cond b 1 0

abbrev pub current_of : ℕ → Inbound → Bool
current_of peer g = is_current_of peer g.owner

pub once_entered : (gs : List Inbound) (place : ℕ) → IsCurrentOnce gs → IsCurrentOnce (gs ++ (record { place = place; owner = Nobody }) ∷ [])
once_entered gs place few peer =
    let apart = sum_by-append (λ (x : Inbound). cond (current_of peer x) 1 0) gs ((record { place = place; owner = Nobody }) ∷ []) in
    omega (arith, few peer, apart)

-- ---- one left out

count_parts : (p : Inbound → Bool) (gs : List Inbound) (n : ℕ) → count_by p gs ≡ count_by p (take n gs) + count_by p (drop n gs)
count_parts p gs n =
    ap (count_by p) (sym (take-append-drop n gs)) ∙ sum_by-append (λ (x : Inbound). cond (p x) 1 0) (take n gs) (drop n gs)

count_without : (p : Inbound → Bool) (gs : List Inbound) (i : ℕ) → count_by p (remove gs i) ≡ count_by p (take i gs) + count_by p (drop (suc i) gs)
count_without p gs i = sum_by-append (λ (x : Inbound). cond (p x) 1 0) (take i gs) (drop (suc i) gs)

one_fewer : (p : Inbound → Bool) (gs : List Inbound) (i : ℕ) → i < length gs → p (get_or gs i nobody) ≡ true → count_by p (remove gs i) + 1 ≡ count_by p gs
one_fewer p gs i within passes =
    let parts = count_parts p gs (suc i) in
    let more = count_by_more_yes p gs i nobody within passes in
    let at_next : count_by p (take (suc i) gs) ≡ count_by p (take i gs) + 1 = rw add-one at more in
    omega (arith, parts, at_next, count_without p gs i)

none_fewer : (p : Inbound → Bool) (gs : List Inbound) (i : ℕ) → i < length gs → p (get_or gs i nobody) ≡ false → count_by p (remove gs i) ≡ count_by p gs
none_fewer p gs i within fails =
    let parts = count_parts p gs (suc i) in
    let more = count_by_more_no p gs i nobody within fails in
    let at_next : count_by p (take (suc i) gs) ≡ count_by p (take i gs) = rw add-one at more in
    omega (arith, parts, at_next, count_without p gs i)

not_more : (p : Inbound → Bool) (gs : List Inbound) (i : ℕ) → i < length gs → (b : Bool) → p (get_or gs i nobody) ≡ b → count_by p (remove gs i) ≤ count_by p gs
not_more p gs i within true is = omega (arith, one_fewer p gs i within is)
not_more p gs i within false is = omega (arith, none_fewer p gs i within is)

pub once_without : (gs : List Inbound) (at : Option ℕ) → IfSome at (λ i. i < length gs) → IsCurrentOnce gs → IsCurrentOnce (without at gs)
once_without gs None within few peer = few peer
once_without gs (Some i) within few peer = omega (arith, few peer, not_more (current_of peer) gs i within (current_of peer (get_or gs i nobody)) refl)

-- ---- none passes

none_before : (p : Inbound → Bool) (gs : List Inbound) (n : ℕ) → n ≤ length gs → n ≤ position_or_len p gs → count_by p (take n gs) ≡ 0
none_before p gs zero within before = refl
none_before p gs (suc n) within before =
    let fails = fails_before_first p gs n nobody (omega arith) in
    let more = count_by_more_no p gs n nobody (omega arith) fails in
    let at_next : count_by p (take (suc n) gs) ≡ count_by p (take n gs) = rw add-one at more in
    at_next ∙ none_before p gs n (omega arith) (omega arith)

pub past_all : (p : Inbound → Bool) (gs : List Inbound) → position p gs ≡ None → length gs ≤ position_or_len p gs
past_all p gs is = grind (arith, common_steps)

pub none_at_all : (p : Inbound → Bool) (gs : List Inbound) → position p gs ≡ None → count_by p gs ≡ 0
none_at_all p gs is =
    ap (count_by p) (sym (take_all (length gs) gs (omega arith))) ∙ none_before p gs (length gs) (omega arith) (past_all p gs is)

-- ---- one with another owner

pub set_owner_at : (gs : List Inbound) (i : ℕ) (owner : Owner) → i < length gs
    → list_with_owner (Some i) owner gs ≡ slice_set gs i (record (get_or gs i nobody) { owner = owner })
set_owner_at gs i owner within =
    let at = slice_get-get_or gs i nobody within in
    rw at refl

owner_counts : (peer : ℕ) (gs : List Inbound) (i : ℕ) (owner : Owner) → i < length gs
    → count_by (current_of peer) (list_with_owner (Some i) owner gs) + one (current_of peer (get_or gs i nobody))
    ≡ count_by (current_of peer) gs + one (is_current_of peer owner)
owner_counts peer gs i owner within =
    rw (set_owner_at gs i owner within)
    (sum_by-set (λ (x : Inbound). cond (current_of peer x) 1 0) gs i (record (get_or gs i nobody) { owner = owner }) nobody within)

not_more_with : (peer : ℕ) (gs : List Inbound) (at : Option ℕ) (owner : Owner) → IfSome at (λ i. i < length gs)
    → is_current_of peer owner ≡ false → count_by (current_of peer) (list_with_owner at owner gs) ≤ count_by (current_of peer) gs
not_more_with peer gs None owner within not = omega arith
not_more_with peer gs (Some i) owner within not =
    let counts = owner_counts peer gs i owner within in
    let none : one (is_current_of peer owner) ≡ 0 = ap {B = ℕ} (λ (v : Bool). cond v 1 0) not in
    omega (arith, counts, none)

pub within_first : (p : Inbound → Bool) (gs : List Inbound) (at : Option ℕ) → position p gs ≡ at → IfSome at (λ i. i < length gs)
within_first p gs None is = search rules
within_first p gs (Some i) is = (position-Some p gs i nobody is).0

pub once_claimed : (gs : List Inbound) (place peer : ℕ) → IsCurrentOnce gs → IsCurrentOnce (list_with_claim place peer gs)
once_claimed gs place peer few other =
    let at = position (λ g. is_nobody g.owner && stands_at place g) gs in
    let more = not_more_with other gs at (Peer peer) (within_first (λ g. is_nobody g.owner && stands_at place g) gs at refl) refl in
    omega (arith, more, few other)

left_by : (gs : List Inbound) (peer : ℕ) (at : Option ℕ) → position (current_of peer) gs ≡ at → IsCurrentOnce gs
    → count_by (current_of peer) (list_with_owner at (Peer peer) gs) ≡ 0
left_by gs peer None is few = none_at_all (current_of peer) gs is
left_by gs peer (Some i) is few =
    let found = position-Some (current_of peer) gs i nobody is in
    let counts = owner_counts peer gs i (Peer peer) found.0 in
    let was : one (current_of peer (get_or gs i nobody)) ≡ 1 = ap {B = ℕ} (λ (v : Bool). cond v 1 0) found.1 in
    omega (arith, counts, was, few peer)

none_left : (gs : List Inbound) (peer : ℕ) → IsCurrentOnce gs → count_by (current_of peer) (list_without_current peer gs) ≡ 0
none_left gs peer few = left_by gs peer (position (current_of peer) gs) refl few

fewer_left : (gs : List Inbound) (peer other : ℕ) → IsCurrentOnce gs → count_by (current_of other) (list_without_current peer gs) ≤ 1
fewer_left gs peer other few =
    let at = position (current_of peer) gs in
    let more = not_more_with other gs at (Peer peer) (within_first (current_of peer) gs at refl) refl in
    omega (arith, more, few other)

current_by : (gs : List Inbound) (peer other : ℕ) (b : Bool) → (peer == other) ≡ b → (at : Option ℕ) → IfSome at (λ i. i < length gs)
    → count_by (current_of peer) gs ≡ 0 → count_by (current_of other) gs ≤ 1 → count_by (current_of other) (list_with_owner at (Current peer) gs) ≤ 1
current_by gs peer other b is None within none few = few
current_by gs peer other true is (Some i) within none few =
    let same : peer ≡ other = eqb-true peer other is in
    let counts = owner_counts other gs i (Current peer) within in
    let free = subst (λ (n : ℕ). count_by (current_of n) gs ≡ 0) same none in
    let new : one (peer == other) ≡ 1 = ap {B = ℕ} (λ (v : Bool). cond v 1 0) is in
    omega (arith, counts, free, new)
current_by gs peer other false is (Some i) within none few =
    let more = not_more_with other gs (Some i) (Current peer) within is in
    omega (arith, more, few)

pub once_current : (gs : List Inbound) (place peer : ℕ) → IsCurrentOnce gs → IsCurrentOnce (list_with_current place peer gs)
once_current gs place peer few other =
    let rest = list_without_current peer gs in
    let at = position (stands_at place) rest in
    current_by rest peer other (peer == other) refl at (within_first (stands_at place) rest at refl) (none_left gs peer few)
    (fewer_left gs peer other few)
