-- The laws of `specs/Laws.antt`.
use Rattle.std.proofs.Common.{◌≡◌, ◌≢◌, ℕ, ◌↔◌, Bool, true, false, cond, eqb, List, [], ◌∷◌, ◌++◌, Option, None, Some, Contains, refl, sym, ap, ◌∙◌, arith, append_assoc, append-nil, eqb-true, ne_eqb, eq-eqb}
use Rattle.std.specs.Option.{option_or}
use Rattle.std.proofs.lemmas.Bool.{cond-true, cond-false, false≢true}
use Rattle.std.proofs.lemmas.List.Elements.{Contains-append_right}
use Rattle.pay_echo.specs.Broadcast.{Group, Vote, Send, Echo, Ready, value_of, value_if_send, echoed_by, readied_by, find_map, is_for, echoed, echo_of, echo_set, other_ready_of, other_ready_set, may_ready, readied, ready_of, ready_set, may_deliver, delivered}
use Rattle.pay_echo.specs.Laws.{EchoedByOneMore, ReadiedByOneMore, DeliveredByOneMore, EchoedStays, ReadiedStays, DeliveredStays, EchoStays, ReadyStays, OtherReadyStays, SecondSend, SecondEcho, SecondReady, InEchoSet, InReadySet, InOtherReadySet, OwnEcho, OwnReady, SendCame, EchoCame, ReadyCame}
use Rattle.pay_echo.proofs.Lists.{find_map-push, bytes_eq-true, bytes_eq-same}
use Rattle.pay_echo.proofs.OneMore.{echoed-push, readied-push, delivered-push}
use Rattle.pay_echo.proofs.SecondVotes.{push_send, push_echo, push_ready}

pub echoed_by_one_more : EchoedByOneMore
echoed_by_one_more votes x = echoed-push votes x

pub readied_by_one_more : ReadiedByOneMore
readied_by_one_more g votes x = readied-push g votes x

pub delivered_by_one_more : DeliveredByOneMore
delivered_by_one_more g votes x = delivered-push g votes x

-- ---- what was known stays

-- what one more vote keeps, any number keeps
keeps : (f : List Vote → Option (List ℕ)) → ((votes : List Vote) (x : Vote) → (a : Option (List ℕ)) × (f (votes ++ x ∷ []) ≡ option_or (f votes) a)) → (votes more : List Vote) (v : List ℕ) → f votes ≡ Some v → f (votes ++ more) ≡ Some v
keeps f step votes [] v e = rw append-nil e
keeps f step votes (x ∷ more) v e =
    let now : f (votes ++ x ∷ []) ≡ Some v = (step votes x).1 ∙ ap (λ o. option_or o (step votes x).0) e in
    let rest = keeps f step (votes ++ x ∷ []) more v now in
    rw (← append_assoc votes (x ∷ []) more) rest

find_map-stays : (f : Vote → Option (List ℕ)) (votes more : List Vote) (v : List ℕ) → find_map f votes ≡ Some v → find_map f (votes ++ more) ≡ Some v
find_map-stays f votes more v e = keeps (find_map f) (λ vs x. (f x, find_map-push f vs x)) votes more v e

pub echoed_stays : EchoedStays
unfolding echoed
echoed_stays votes more v e = find_map-stays value_if_send votes more v e

pub readied_stays : ReadiedStays
readied_stays g votes more v e =
    keeps (readied g) (λ vs x. (cond (may_ready g (vs ++ x ∷ []) (value_of x)) (Some (value_of x)) None, readied-push g vs x)) votes more v e

pub delivered_stays : DeliveredStays
delivered_stays g votes more v e =
    keeps (delivered g) (λ vs x. (cond (may_deliver g (vs ++ x ∷ []) (value_of x)) (Some (value_of x)) None, delivered-push g vs x)) votes more v e

-- at one's own place and at another's
at_place : (b : Bool) (m o m' o' : Option (List ℕ)) (v : List ℕ) → (m ≡ Some v → m' ≡ Some v) → (o ≡ Some v → o' ≡ Some v) → cond b m o ≡ Some v → cond b m' o' ≡ Some v
at_place true m o m' o' v mine others e = mine e
at_place false m o m' o' v mine others e = others e

pub echo_stays : EchoStays
unfolding echo_of
echo_stays g votes more p v e =
    at_place (eqb p g.own) (echoed votes) (find_map (echoed_by p) votes) (echoed (votes ++ more)) (find_map (echoed_by p) (votes ++ more)) v
    (echoed_stays votes more v) (find_map-stays (echoed_by p) votes more v) e

pub ready_stays : ReadyStays
unfolding ready_of
ready_stays g votes more p v e =
    at_place (eqb p g.own) (readied g votes) (find_map (readied_by p) votes) (readied g (votes ++ more)) (find_map (readied_by p) (votes ++ more)) v
    (readied_stays g votes more v) (find_map-stays (readied_by p) votes more v) e

pub other_ready_stays : OtherReadyStays
unfolding other_ready_of
other_ready_stays g votes more p v e =
    at_place (eqb p g.own) None (find_map (readied_by p) votes) None (find_map (readied_by p) (votes ++ more)) v
    (λ h. h) (find_map-stays (readied_by p) votes more v) e

-- ---- second votes

pub echo_of-found : (g : Group) (votes : List Vote) (p : ℕ) → p ≢ g.own → echo_of g votes p ≡ find_map (echoed_by p) votes
unfolding echo_of
echo_of-found g votes p ne = cond-false (eqb p g.own) (echoed votes) (find_map (echoed_by p) votes) (ne_eqb p g.own ne)

pub ready_of-found : (g : Group) (votes : List Vote) (p : ℕ) → p ≢ g.own → ready_of g votes p ≡ find_map (readied_by p) votes
unfolding ready_of
ready_of-found g votes p ne = cond-false (eqb p g.own) (readied g votes) (find_map (readied_by p) votes) (ne_eqb p g.own ne)

pub second_send : SecondSend
second_send g votes v w member e = push_send g votes member v (Some w) e

pub second_echo : SecondEcho
second_echo g votes p v w member below other e = push_echo g votes member p v below other (Some w) (sym (echo_of-found g votes p other) ∙ e)

pub second_ready : SecondReady
second_ready g votes p v w member below other e = push_ready g votes member p v below other (Some w) (sym (ready_of-found g votes p other) ∙ e)

-- ---- who is in a set

pub is_for-true : (v : List ℕ) (o : Option (List ℕ)) → (is_for v o ≡ true) ↔ (o ≡ Some v)
unfolding is_for
is_for-true v None = (λ e. absurd (false≢true e), λ e. cc)
is_for-true v (Some w) = (λ e. ap Some (bytes_eq-true w v e), λ e. let same : w ≡ v = cc in rw same (bytes_eq-same v))

pub in_echo_set : InEchoSet
unfolding echo_set
in_echo_set g votes v p = is_for-true v (echo_of g votes p)

pub in_ready_set : InReadySet
unfolding ready_set
in_ready_set g votes v p = is_for-true v (ready_of g votes p)

other_ready_of-own : (g : Group) (votes : List Vote) (p : ℕ) → p ≡ g.own → other_ready_of g votes p ≡ None
unfolding other_ready_of
other_ready_of-own g votes p e = cond-true (eqb p g.own) None (find_map (readied_by p) votes) (eq-eqb p g.own e)

other_ready_of-other : (g : Group) (votes : List Vote) (p : ℕ) → p ≢ g.own → other_ready_of g votes p ≡ ready_of g votes p
unfolding other_ready_of
other_ready_of-other g votes p ne =
    cond-false (eqb p g.own) None (find_map (readied_by p) votes) (ne_eqb p g.own ne) ∙ sym (ready_of-found g votes p ne)

pub None-Some : (v : List ℕ) → None ≡ Some v → ⊥
None-Some v e = cc

pub in_other_ready_set : InOtherReadySet
unfolding other_ready_set
in_other_ready_set g votes v p =
    let its = is_for-true v (other_ready_of g votes p) in (
      λ e. let other : p ≢ g.own = λ own. None-Some v (sym (other_ready_of-own g votes p own) ∙ its.0 e) in
          (other, sym (other_ready_of-other g votes p other) ∙ its.0 e),
      λ h. its.1 (other_ready_of-other g votes p h.0 ∙ h.1),
    )

pub own_echo : OwnEcho
unfolding echo_of
own_echo g votes = cond-true (eqb g.own g.own) (echoed votes) (find_map (echoed_by g.own) votes) (eq-eqb g.own g.own refl)

pub own_ready : OwnReady
unfolding ready_of
own_ready g votes = cond-true (eqb g.own g.own) (readied g votes) (find_map (readied_by g.own) votes) (eq-eqb g.own g.own refl)

-- ---- whose vote came

Contains-head : (x : Vote) (xs : List Vote) → Contains (x ∷ xs) x
Contains-head x xs = (0, omega arith, refl)

-- what is found came with some vote
found_came : (f : Vote → Option (List ℕ)) (y : Vote) (v : List ℕ) → ((x : Vote) → f x ≡ Some v → x ≡ y) → (votes : List Vote) → find_map f votes ≡ Some v → Contains votes y
found_came f y v names [] e = absurd (None-Some v e)
found_came f y v names (x ∷ votes) e = go (f x) refl (found_came f y v names votes) where
  go : (o : Option (List ℕ)) → f x ≡ o → (find_map f votes ≡ Some v → Contains votes y) → Contains (x ∷ votes) y
  go None is later = Contains-append_right (x ∷ []) votes y (later (rw is at e))
  go (Some w) is later = rw (← names x (is ∙ (rw is at e))) (Contains-head x votes)

pub cond-Some : (b : Bool) (v w : List ℕ) → cond b (Some v) None ≡ Some w → (b ≡ true) × (v ≡ w)
cond-Some true v w e = (refl, cc)
cond-Some false v w e = cc

value_if_send-names : (v : List ℕ) (x : Vote) → value_if_send x ≡ Some v → x ≡ Send v
unfolding value_if_send
value_if_send-names v (Send w) e = ap Send cc
value_if_send-names v (Echo p w) e = cc
value_if_send-names v (Ready p w) e = cc

echoed_by-names : (p : ℕ) (v : List ℕ) (x : Vote) → echoed_by p x ≡ Some v → x ≡ Echo p v
unfolding echoed_by
echoed_by-names p v (Send w) e = cc
echoed_by-names p v (Echo q w) e = let h = cond-Some (eqb q p) w v e in rw (eqb-true q p h.0, h.1) refl
echoed_by-names p v (Ready q w) e = cc

readied_by-names : (p : ℕ) (v : List ℕ) (x : Vote) → readied_by p x ≡ Some v → x ≡ Ready p v
unfolding readied_by
readied_by-names p v (Send w) e = cc
readied_by-names p v (Echo q w) e = cc
readied_by-names p v (Ready q w) e = let h = cond-Some (eqb q p) w v e in rw (eqb-true q p h.0, h.1) refl

pub send_came : SendCame
unfolding echoed
send_came votes v e = found_came value_if_send (Send v) v (value_if_send-names v) votes e

pub echo_came : EchoCame
echo_came g votes p v other e = found_came (echoed_by p) (Echo p v) v (echoed_by-names p v) votes (sym (echo_of-found g votes p other) ∙ e)

pub ready_came : ReadyCame
ready_came g votes p v other e = found_came (readied_by p) (Ready p v) v (readied_by-names p v) votes (sym (ready_of-found g votes p other) ∙ e)
