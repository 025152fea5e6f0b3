-- Where a vote came the first is known; why one is READY and why one delivers.
use Rattle.std.proofs.Common.{◌≡◌, ℕ, zero, suc, ◌+◌, ◌*◌, ◌<◌, ◌⊎◌, Bool, true, false, cond, ◌&&◌, eqb, ltb, List, [], ◌∷◌, ◌++◌, length, get_or, Option, None, Some, refl, sym, ap, ◌∙◌, inl, inr, arith, eq-eqb, lt-ltb}
use Rattle.std.specs.Option.{option_or}
use Rattle.std.proofs.lemmas.Bool.{cond-true, both_ways, ltb-true, or_cases, or_left, or_right, and_parts}
use Rattle.pay_echo.specs.Broadcast.{Group, Vote, Send, Echo, Ready, value_of, value_if_send, echoed_by, readied_by, find_map, size, echoed, echo_of, echo_set, other_ready_set, may_ready, readied, ready_set, may_deliver, delivered}
use Rattle.pay_echo.specs.Laws.{EchoSetGrows, ReadySetGrows, OtherReadySetGrows, SendIsEchoed, EchoCounts, ReadyCounts, WhyReady, WhyDelivered, QuorumMakesReady, AmplificationMakesReady, ReadysDeliver, OneValueByQuorum}
use Rattle.pay_echo.proofs.Lists.{either, by_push}
use Rattle.pay_echo.proofs.OneMore.{readied-push, delivered-push, size-none, readied-none, delivered-none}
use Rattle.pay_echo.proofs.StepLaw.{ready_not_yet, deliver_not_yet}
use Rattle.pay_echo.proofs.Sets.{part_is_smaller, quorums_share, larger_has_another}
use Rattle.pay_echo.proofs.VoteLaws.{echo_of-found, ready_of-found, echo_stays, ready_stays, in_echo_set, in_ready_set, in_other_ready_set, None-Some, cond-Some}

-- what comes is found, that vote's answer or an earlier one's
comes_found : (f : Vote → Option (List ℕ)) (y : Vote) (v : List ℕ) → f y ≡ Some v → (votes : List Vote) (k : ℕ) → k < length votes → get_or votes k y ≡ y → find_map f votes ≡ None → ⊥
comes_found f y v e [] k below at none = absurd (omega arith)
comes_found f y v e (x ∷ votes) zero below at none =
    let is : f x ≡ Some v = rw at e in
    None-Some v (sym none ∙ ap (λ o. option_or o (find_map f votes)) is)
comes_found f y v e (x ∷ votes) (suc k) below at none = go (f x) refl (comes_found f y v e votes k (omega arith) at) where
  go : (o : Option (List ℕ)) → f x ≡ o → (find_map f votes ≡ None → ⊥) → ⊥
  go None is later = later (rw is at none)
  go (Some w) is later = None-Some w (sym (rw is at none))

echoed_by-own : (p : ℕ) (v : List ℕ) → echoed_by p (Echo p v) ≡ Some v
unfolding echoed_by
echoed_by-own p v = cond-true (eqb p p) (Some v) None (eq-eqb p p refl)

readied_by-own : (p : ℕ) (v : List ℕ) → readied_by p (Ready p v) ≡ Some v
unfolding readied_by
readied_by-own p v = cond-true (eqb p p) (Some v) None (eq-eqb p p refl)

pub send_is_echoed : SendIsEchoed
unfolding echoed value_if_send
send_is_echoed votes v came none = comes_found value_if_send (Send v) v refl votes came.0 came.1 came.2 none

pub echo_counts : EchoCounts
echo_counts g votes p v other came none =
    comes_found (echoed_by p) (Echo p v) v (echoed_by-own p v) votes came.0 came.1 came.2 (sym (echo_of-found g votes p other) ∙ none)

pub ready_counts : ReadyCounts
ready_counts g votes p v other came none =
    comes_found (readied_by p) (Ready p v) v (readied_by-own p v) votes came.0 came.1 came.2 (sym (ready_of-found g votes p other) ∙ none)

-- ---- sets over more votes

pub echo_set-grows : EchoSetGrows
echo_set-grows g votes more v =
    part_is_smaller g.members (echo_set g votes v) (echo_set g (votes ++ more) v)
    (λ p below e. (in_echo_set g (votes ++ more) v p).1 (echo_stays g votes more p v ((in_echo_set g votes v p).0 e)))

pub ready_set-grows : ReadySetGrows
ready_set-grows g votes more v =
    part_is_smaller g.members (ready_set g votes v) (ready_set g (votes ++ more) v)
    (λ p below e. (in_ready_set g (votes ++ more) v p).1 (ready_stays g votes more p v ((in_ready_set g votes v p).0 e)))

pub other_ready_set-grows : OtherReadySetGrows
other_ready_set-grows g votes more v =
    part_is_smaller g.members (other_ready_set g votes v) (other_ready_set g (votes ++ more) v)
    (λ p below e. let member = (in_other_ready_set g votes v p).0 e in
    (in_other_ready_set g (votes ++ more) v p).1 (member.0, ready_stays g votes more p v member.1))

-- ---- why

IsReadyFor : Group → List Vote → List ℕ → Type 0
IsReadyFor g votes v = (g.members + g.faults < 2 * size g.members (echo_set g votes v)) ⊎ (g.faults < size g.members (other_ready_set g votes v))

may_ready-says : (g : Group) (votes : List Vote) (v : List ℕ) → may_ready g votes v ≡ true → IsReadyFor g votes v
unfolding may_ready IsReadyFor
may_ready-says g votes v t =
    either (or_cases (ltb (g.members + g.faults) (2 * size g.members (echo_set g votes v))) (ltb g.faults (size g.members (other_ready_set g votes v))) t)
    (λ e. inl (ltb-true (g.members + g.faults) (2 * size g.members (echo_set g votes v)) e))
    (λ e. inr (ltb-true g.faults (size g.members (other_ready_set g votes v)) e))

IsReadyFor-grows : (g : Group) (votes more : List Vote) (v : List ℕ) → IsReadyFor g votes v → IsReadyFor g (votes ++ more) v
unfolding IsReadyFor
IsReadyFor-grows g votes more v h =
    either h
    (λ e. inl (omega (arith, e, echo_set-grows g votes more v)))
    (λ e. inr (omega (arith, e, other_ready_set-grows g votes more v)))

-- an answer that comes by one vote, or was there before
came_by : (o : Option (List ℕ)) (b : Bool) (v w : List ℕ) → option_or o (cond b (Some v) None) ≡ Some w → (o ≡ Some w) ⊎ ((b ≡ true) × (v ≡ w))
came_by (Some u) b v w e = inl e
came_by None b v w e = inr (cond-Some b v w e)

ReadyHasCause : Group → List Vote → Type 0
ReadyHasCause g votes = (v : List ℕ) → readied g votes ≡ Some v → IsReadyFor g votes v

ReadyHasCause-push : (g : Group) (votes : List Vote) (x : Vote) → ReadyHasCause g votes → ReadyHasCause g (votes ++ x ∷ [])
unfolding ReadyHasCause
ReadyHasCause-push g votes x before v e =
    either (came_by (readied g votes) (may_ready g (votes ++ x ∷ []) (value_of x)) (value_of x) v (sym (readied-push g votes x) ∙ e))
    (λ was. IsReadyFor-grows g votes (x ∷ []) v (before v was))
    (λ now. rw (← now.1) (may_ready-says g (votes ++ x ∷ []) (value_of x) now.0))

pub why_ready : WhyReady
unfolding ReadyHasCause IsReadyFor
why_ready g votes = by_push (ReadyHasCause g) (λ v e. absurd (None-Some v (sym (readied-none g) ∙ e))) (ReadyHasCause-push g) votes

DeliveryHasCause : Group → List Vote → Type 0
DeliveryHasCause g votes = (v : List ℕ) → delivered g votes ≡ Some v → 2 * g.faults < size g.members (ready_set g votes v)

may_deliver-says : (g : Group) (votes : List Vote) (v : List ℕ) → may_deliver g votes v ≡ true → 2 * g.faults < size g.members (ready_set g votes v)
unfolding may_deliver
may_deliver-says g votes v t = ltb-true (2 * g.faults) (size g.members (ready_set g votes v)) t

DeliveryHasCause-push : (g : Group) (votes : List Vote) (x : Vote) → DeliveryHasCause g votes → DeliveryHasCause g (votes ++ x ∷ [])
unfolding DeliveryHasCause
DeliveryHasCause-push g votes x before v e =
    either (came_by (delivered g votes) (may_deliver g (votes ++ x ∷ []) (value_of x)) (value_of x) v (sym (delivered-push g votes x) ∙ e))
    (λ was. omega (arith, before v was, ready_set-grows g votes (x ∷ []) v))
    (λ now. rw (← now.1) (may_deliver-says g (votes ++ x ∷ []) (value_of x) now.0))

pub why_delivered : WhyDelivered
unfolding DeliveryHasCause
why_delivered g votes = by_push (DeliveryHasCause g) (λ v e. absurd (None-Some v (sym (delivered-none g) ∙ e))) (DeliveryHasCause-push g) votes

-- ---- where one may, one does

pub quorum_makes_ready : QuorumMakesReady
unfolding may_ready
quorum_makes_ready g votes v quorum none =
    both_ways (may_ready g votes v) (ready_not_yet g votes none v)
    (or_left (ltb (g.members + g.faults) (2 * size g.members (echo_set g votes v))) (ltb g.faults (size g.members (other_ready_set g votes v)))
    (lt-ltb (g.members + g.faults) (2 * size g.members (echo_set g votes v)) quorum))

pub amplification_makes_ready : AmplificationMakesReady
unfolding may_ready
amplification_makes_ready g votes v more none =
    both_ways (may_ready g votes v) (ready_not_yet g votes none v)
    (or_right (ltb (g.members + g.faults) (2 * size g.members (echo_set g votes v))) (ltb g.faults (size g.members (other_ready_set g votes v)))
    (lt-ltb g.faults (size g.members (other_ready_set g votes v)) more))

pub readys_deliver : ReadysDeliver
unfolding may_deliver
readys_deliver g votes v more none =
    both_ways (may_deliver g votes v) (deliver_not_yet g votes none v) (lt-ltb (2 * g.faults) (size g.members (ready_set g votes v)) more)

-- ---- two quorums that one process took

size-nobody : (n : ℕ) → size n (λ p. false) ≡ 0
size-nobody n = size-none n (λ p. false) (λ p. refl)

pub one_value_by_quorum : OneValueByQuorum
one_value_by_quorum g votes v w one other =
    let both = λ (p : ℕ). echo_set g votes v p && echo_set g votes w p in
    let share : g.faults < size g.members both = quorums_share g.members g.faults (echo_set g votes v) (echo_set g votes w) one other in
    let found = larger_has_another g.members both (λ p. false) (omega (arith, size-nobody g.members)) in
    let in_both = and_parts (echo_set g votes v found.0) (echo_set g votes w found.0) found.2 in
    let for_v : echo_of g votes found.0 ≡ Some v = (in_echo_set g votes v found.0).0 in_both.0 in
    let for_w : echo_of g votes found.0 ≡ Some w = (in_echo_set g votes w found.0).0 in_both.1 in
    cc
