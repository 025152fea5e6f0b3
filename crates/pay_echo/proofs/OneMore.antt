-- The answers of `Broadcast` over one vote more.
use Rattle.std.proofs.Common.{◌≡◌, ◌⊎◌, ℕ, ◌+◌, ◌*◌, Bool, true, false, cond, ◌||◌, eqb, ltb, List, [], ◌∷◌, ◌++◌, Option, None, Some, refl, ap, ◌∙◌, bytes_eq, inl, inr, arith, ap₂}
use Rattle.std.specs.Option.{option_or}
use Rattle.std.specs.List.{range_with_len}
use Rattle.std.proofs.lemmas.Bool.{cases_Bool, le-ltb, both_ways}
use Rattle.pay_echo.specs.Broadcast.{Group, Vote, Send, Echo, Ready, value_of, value_if_send, echoed_by, readied_by, find_map, first_known, is_for, size, echoed, echo_of, echo_set, other_ready_of, other_ready_set, may_ready, readied, ready_of, ready_set, may_deliver, delivered}
use Rattle.pay_echo.proofs.Lists.{either, find_map-push, bytes_eq-true, bytes_eq-same, count_by-same, count_by-none}
use Rattle.pay_echo.proofs.Known.{Steps, first_known-push}

-- nothing, or this value
abbrev pub IsOf : List ℕ → Option (List ℕ) → Type 0
IsOf v o = (o ≡ None) ⊎ (o ≡ Some v)

pub value_if_send-IsOf : (x : Vote) → IsOf (value_of x) (value_if_send x)
unfolding value_if_send value_of
value_if_send-IsOf (Send v) = inr refl
value_if_send-IsOf (Echo p v) = inl refl
value_if_send-IsOf (Ready p v) = inl refl

cond-IsOf : (b : Bool) (v : List ℕ) → IsOf v (cond b (Some v) None)
cond-IsOf true v = inr refl
cond-IsOf false v = inl refl

pub echoed_by-IsOf : (p : ℕ) (x : Vote) → IsOf (value_of x) (echoed_by p x)
unfolding echoed_by value_of
echoed_by-IsOf p (Send v) = inl refl
echoed_by-IsOf p (Echo q v) = cond-IsOf (eqb q p) v
echoed_by-IsOf p (Ready q v) = inl refl

pub readied_by-IsOf : (p : ℕ) (x : Vote) → IsOf (value_of x) (readied_by p x)
unfolding readied_by value_of
readied_by-IsOf p (Send v) = inl refl
readied_by-IsOf p (Echo q v) = inl refl
readied_by-IsOf p (Ready q v) = cond-IsOf (eqb q p) v

bytes_eq-flip : (v w : List ℕ) → bytes_eq v w ≡ false → bytes_eq w v ≡ false
bytes_eq-flip v w ne = either (cases_Bool (bytes_eq w v))
    (λ e. absurd (both_ways (bytes_eq v w) ne (rw (bytes_eq-true w v e) (bytes_eq-same v))))
    (λ e. e)

-- a vote for v doesn't make one for another value
is_for-other : (w v : List ℕ) (o a : Option (List ℕ)) → IsOf v a → bytes_eq w v ≡ false → is_for w (option_or o a) ≡ is_for w o
unfolding is_for
is_for-other w v (Some u) a of ne = refl
is_for-other w v None a of ne = either of (λ e. ap (is_for w) e) (λ e. ap (is_for w) e ∙ bytes_eq-flip w v ne)

pub size-same : (n : ℕ) (P Q : ℕ → Bool) → ((p : ℕ) → P p ≡ Q p) → size n P ≡ size n Q
unfolding size
size-same n P Q same = count_by-same P Q same (range_with_len 0 n)

pub size-none : (n : ℕ) (P : ℕ → Bool) → ((p : ℕ) → P p ≡ false) → size n P ≡ 0
unfolding size
size-none n P none = count_by-none P none (range_with_len 0 n)

is_for-None : (v : List ℕ) (o : Option (List ℕ)) → o ≡ None → is_for v o ≡ false
unfolding is_for
is_for-None v o e = ap (is_for v) e

pub echoed-push : (votes : List Vote) (x : Vote) → echoed (votes ++ x ∷ []) ≡ option_or (echoed votes) (value_if_send x)
unfolding echoed
echoed-push votes x = find_map-push value_if_send votes x

module _ (g : Group) where
  pub echo_of-push : (votes : List Vote) (x : Vote) (p : ℕ) → echo_of g (votes ++ x ∷ []) p ≡ cond (eqb p g.own) (option_or (echoed votes) (value_if_send x)) (option_or (find_map (echoed_by p) votes) (echoed_by p x))
  unfolding echo_of
  echo_of-push votes x p = ap₂ (cond (eqb p g.own)) (echoed-push votes x) (find_map-push (echoed_by p) votes x)

  pub other_ready_of-push : (votes : List Vote) (x : Vote) (p : ℕ) → other_ready_of g (votes ++ x ∷ []) p ≡ cond (eqb p g.own) None (option_or (find_map (readied_by p) votes) (readied_by p x))
  unfolding other_ready_of
  other_ready_of-push votes x p = ap (cond (eqb p g.own) None) (find_map-push (readied_by p) votes x)

  is_for-places : (w : List ℕ) (b : Bool) (m o m' o' : Option (List ℕ)) → is_for w m' ≡ is_for w m → is_for w o' ≡ is_for w o → is_for w (cond b m' o') ≡ is_for w (cond b m o)
  is_for-places w true m o m' o' mine others = mine
  is_for-places w false m o m' o' mine others = others

  echo_set-other : (votes : List Vote) (x : Vote) (w : List ℕ) → bytes_eq w (value_of x) ≡ false → size g.members (echo_set g (votes ++ x ∷ []) w) ≡ size g.members (echo_set g votes w)
  unfolding echo_set echo_of
  echo_set-other votes x w ne = size-same g.members (echo_set g (votes ++ x ∷ []) w) (echo_set g votes w)
      (λ p. ap (is_for w) (echo_of-push votes x p) ∙ is_for-places w (eqb p g.own) (echoed votes) (find_map (echoed_by p) votes) (option_or (echoed votes) (value_if_send x)) (option_or (find_map (echoed_by p) votes) (echoed_by p x))
      (is_for-other w (value_of x) (echoed votes) (value_if_send x) (value_if_send-IsOf x) ne)
      (is_for-other w (value_of x) (find_map (echoed_by p) votes) (echoed_by p x) (echoed_by-IsOf p x) ne))

  other_ready_set-other : (votes : List Vote) (x : Vote) (w : List ℕ) → bytes_eq w (value_of x) ≡ false → size g.members (other_ready_set g (votes ++ x ∷ []) w) ≡ size g.members (other_ready_set g votes w)
  unfolding other_ready_set other_ready_of
  other_ready_set-other votes x w ne = size-same g.members (other_ready_set g (votes ++ x ∷ []) w) (other_ready_set g votes w)
      (λ p. ap (is_for w) (other_ready_of-push votes x p) ∙ is_for-places w (eqb p g.own) None (find_map (readied_by p) votes) None (option_or (find_map (readied_by p) votes) (readied_by p x))
      refl
      (is_for-other w (value_of x) (find_map (readied_by p) votes) (readied_by p x) (readied_by-IsOf p x) ne))

  cond-None-None : (b : Bool) → ◌≡◌ {A = Option (List ℕ)} (cond b None None) None
  cond-None-None true = refl
  cond-None-None false = refl

  echo_set-none : (w : List ℕ) → size g.members (echo_set g [] w) ≡ 0
  unfolding echo_set echo_of echoed
  echo_set-none w = size-none g.members (echo_set g [] w) (λ p. is_for-None w (echo_of g [] p) (cond-None-None (eqb p g.own)))

  other_ready_set-none : (w : List ℕ) → size g.members (other_ready_set g [] w) ≡ 0
  unfolding other_ready_set other_ready_of
  other_ready_set-none w = size-none g.members (other_ready_set g [] w) (λ p. is_for-None w (other_ready_of g [] p) (cond-None-None (eqb p g.own)))

  pub may_ready-Steps : Steps (may_ready g)
  unfolding may_ready
  may_ready-Steps =
      record {
        none = λ v. ap₂ (λ (a b : ℕ). ltb (g.members + g.faults) (2 * a) || ltb g.faults b) (echo_set-none v) (other_ready_set-none v) ∙ ap₂ ◌||◌ (le-ltb (g.members + g.faults) (2 * 0) (omega arith)) (le-ltb g.faults 0 (omega arith));
        step = λ votes x v ne. ap₂ (λ (a b : ℕ). ltb (g.members + g.faults) (2 * a) || ltb g.faults b) (echo_set-other votes x v ne) (other_ready_set-other votes x v ne);
      }

  -- whether this vote makes READY, if one wasn't yet
  pub readied-push : (votes : List Vote) (x : Vote) → readied g (votes ++ x ∷ []) ≡ option_or (readied g votes) (cond (may_ready g (votes ++ x ∷ []) (value_of x)) (Some (value_of x)) None)
  unfolding readied
  readied-push votes x = first_known-push (may_ready g) may_ready-Steps votes x

  pub ready_of-push : (votes : List Vote) (x : Vote) (p : ℕ) → ready_of g (votes ++ x ∷ []) p ≡ cond (eqb p g.own) (readied g (votes ++ x ∷ [])) (option_or (find_map (readied_by p) votes) (readied_by p x))
  unfolding ready_of
  ready_of-push votes x p = ap (cond (eqb p g.own) (readied g (votes ++ x ∷ []))) (find_map-push (readied_by p) votes x)

  ready_set-other : (votes : List Vote) (x : Vote) (w : List ℕ) → bytes_eq w (value_of x) ≡ false → size g.members (ready_set g (votes ++ x ∷ []) w) ≡ size g.members (ready_set g votes w)
  unfolding ready_set ready_of
  ready_set-other votes x w ne = size-same g.members (ready_set g (votes ++ x ∷ []) w) (ready_set g votes w)
      (λ p. ap (is_for w) (ready_of-push votes x p) ∙ is_for-places w (eqb p g.own) (readied g votes) (find_map (readied_by p) votes) (readied g (votes ++ x ∷ [])) (option_or (find_map (readied_by p) votes) (readied_by p x))
      (ap (is_for w) (readied-push votes x) ∙ is_for-other w (value_of x) (readied g votes) (cond (may_ready g (votes ++ x ∷ []) (value_of x)) (Some (value_of x)) None) (cond-IsOf (may_ready g (votes ++ x ∷ []) (value_of x)) (value_of x)) ne)
      (is_for-other w (value_of x) (find_map (readied_by p) votes) (readied_by p x) (readied_by-IsOf p x) ne))

  pub readied-none : readied g [] ≡ None
  unfolding readied first_known
  readied-none = refl

  pub delivered-none : delivered g [] ≡ None
  unfolding delivered first_known
  delivered-none = refl

  ready_set-none : (w : List ℕ) → size g.members (ready_set g [] w) ≡ 0
  unfolding ready_set ready_of
  ready_set-none w = size-none g.members (ready_set g [] w) (λ p. is_for-None w (ready_of g [] p) (ap (λ r. cond (eqb p g.own) r None) readied-none ∙ cond-None-None (eqb p g.own)))

  pub may_deliver-Steps : Steps (may_deliver g)
  unfolding may_deliver
  may_deliver-Steps =
      record {
        none = λ v. ap (λ (a : ℕ). ltb (2 * g.faults) a) (ready_set-none v) ∙ le-ltb (2 * g.faults) 0 (omega arith);
        step = λ votes x v ne. ap (λ (a : ℕ). ltb (2 * g.faults) a) (ready_set-other votes x v ne);
      }

  -- whether this vote delivers, if nothing was delivered yet
  pub delivered-push : (votes : List Vote) (x : Vote) → delivered g (votes ++ x ∷ []) ≡ option_or (delivered g votes) (cond (may_deliver g (votes ++ x ∷ []) (value_of x)) (Some (value_of x)) None)
  unfolding delivered
  delivered-push votes x = first_known-push (may_deliver g) may_deliver-Steps votes x
