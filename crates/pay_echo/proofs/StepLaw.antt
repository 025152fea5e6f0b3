-- The step function gives the meaning of one vote more.
use Rattle.std.proofs.Common.{◌≡◌, ◌≢◌, ℕ, ◌+◌, ◌*◌, ◌<◌, true, false, cond, ◌||◌, eqb, ltb, List, [], ◌∷◌, ◌++◌, map, set, Option, None, Some, count_by, refl, sym, ap, ap₂, ◌∙◌, ne_eqb, eq-eqb}
use Rattle.std.specs.Option.{option_or}
use Rattle.std.specs.List.{range_with_len}
use Rattle.std.proofs.lemmas.Bool.{cond-true, cond-false, cases_Bool}
use Rattle.pay_echo.specs.Broadcast.{Group, Vote, Send, Echo, Ready, value_of, value_if_send, echoed_by, readied_by, find_map, is_for, size, echoed, echo_of, echo_set, other_ready_of, other_ready_set, may_ready, readied, ready_of, ready_set, may_deliver, delivered}
use Rattle.pay_echo.specs.Meaning.{Meaning, meaning_of}
use Rattle.pay_echo.proofs.Settling.{may_ready_at, may_deliver_at, now_ready, now_delivered, settled, with_send, with_echo, with_ready}
use Rattle.pay_echo.proofs.Lists.{either, find_map-push, option_or-None, count_by-map, map-range-set, map-same}
use Rattle.pay_echo.proofs.Known.{not_yet}
use Rattle.pay_echo.proofs.OneMore.{echoed-push, may_ready-Steps, may_deliver-Steps, readied-push, delivered-push}

pub ready_not_yet : (g : Group) (votes : List Vote) → readied g votes ≡ None → (v : List ℕ) → may_ready g votes v ≡ false
unfolding readied
ready_not_yet g votes e v = not_yet (may_ready g) (may_ready-Steps g) votes e v

pub deliver_not_yet : (g : Group) (votes : List Vote) → delivered g votes ≡ None → (v : List ℕ) → may_deliver g votes v ≡ false
unfolding delivered
deliver_not_yet g votes e v = not_yet (may_deliver g) (may_deliver-Steps g) votes e v

-- the READYs by place: one's own, and those of others
unfoldable pub readys_with : Group → List Vote → Option (List ℕ) → ℕ → Option (List ℕ)
readys_with g votes r p = cond (eqb p g.own) r (find_map (readied_by p) votes)

-- the meaning where so far this value is readied and this one delivered
unfoldable pub stage : Group → List Vote → Option (List ℕ) → Option (List ℕ) → Meaning
stage g votes r d =
    record {
      group = g;
      echoed = echoed votes;
      echoes = map (echo_of g votes) (range_with_len 0 g.members);
      readied = r;
      readys = map (readys_with g votes r) (range_with_len 0 g.members);
      delivered = d;
    }

pub stage-all : (g : Group) (votes : List Vote) → meaning_of g votes ≡ stage g votes (readied g votes) (delivered g votes)
unfolding stage meaning_of readys_with ready_of
stage-all g votes = refl

-- the votes for a value in the list of votes by place, and the size of their set
count_by-votes : (f : ℕ → Option (List ℕ)) (n : ℕ) (v : List ℕ) → count_by (is_for v) (map f (range_with_len 0 n)) ≡ size n (λ p. is_for v (f p))
unfolding size
count_by-votes f n v = count_by-map (is_for v) f (range_with_len 0 n)

-- READY by the counts of the meaning, and by those of the votes
may_ready_at-stage : (g : Group) (votes : List Vote) (d : Option (List ℕ)) (v : List ℕ) → may_ready_at (stage g votes None d) v ≡ may_ready g votes v
unfolding stage may_ready_at may_ready echo_set other_ready_set other_ready_of readys_with
may_ready_at-stage g votes d v =
    ap₂ (λ (a b : ℕ). ltb (g.members + g.faults) (2 * a) || ltb g.faults b) (count_by-votes (echo_of g votes) g.members v) (count_by-votes (readys_with g votes None) g.members v)

may_deliver_at-stage : (g : Group) (votes : List Vote) (v : List ℕ) → may_deliver_at (stage g votes (readied g votes) None) v ≡ may_deliver g votes v
unfolding stage may_deliver_at may_deliver ready_set ready_of readys_with
may_deliver_at-stage g votes v = ap (λ (a : ℕ). ltb (2 * g.faults) a) (count_by-votes (ready_of g votes) g.members v)

-- one's own READY is written at one's own place
stage-readied : (g : Group) (votes : List Vote) (d : Option (List ℕ)) (v : List ℕ) → g.own < g.members → record (stage g votes None d) { readied = Some v; readys = set (map (readys_with g votes None) (range_with_len 0 g.members)) g.own (Some v) } ≡ stage g votes (Some v) d
unfolding stage readys_with
stage-readied g votes d v member =
    ap (λ (rs : List (Option (List ℕ))). record (stage g votes (Some v) d) { readys = rs })
    (sym (map-range-set (readys_with g votes None) (readys_with g votes (Some v)) g.members g.own (Some v) member
    (λ i ne. cond-false (eqb i g.own) (Some v) (find_map (readied_by i) votes) (ne_eqb i g.own ne) ∙ sym (cond-false (eqb i g.own) None (find_map (readied_by i) votes) (ne_eqb i g.own ne)))
    (cond-true (eqb g.own g.own) (Some v) (find_map (readied_by g.own) votes) (eq-eqb g.own g.own refl))))

-- what the two moves do, by their tests
pub now_ready-yes : (m : Meaning) (v : List ℕ) → may_ready_at m v ≡ true → now_ready m v ≡ record m { readied = Some v; readys = set m.readys m.group.own (Some v) }
unfolding now_ready
now_ready-yes m v t = cond-true (may_ready_at m v) (record m { readied = Some v; readys = set m.readys m.group.own (Some v) }) m t

pub now_ready-not : (m : Meaning) (v : List ℕ) → may_ready_at m v ≡ false → now_ready m v ≡ m
unfolding now_ready
now_ready-not m v t = cond-false (may_ready_at m v) (record m { readied = Some v; readys = set m.readys m.group.own (Some v) }) m t

pub now_delivered-yes : (m : Meaning) (v : List ℕ) → may_deliver_at m v ≡ true → now_delivered m v ≡ record m { delivered = Some v }
unfolding now_delivered
now_delivered-yes m v t = cond-true (may_deliver_at m v) (record m { delivered = Some v }) m t

pub now_delivered-not : (m : Meaning) (v : List ℕ) → may_deliver_at m v ≡ false → now_delivered m v ≡ m
unfolding now_delivered
now_delivered-not m v t = cond-false (may_deliver_at m v) (record m { delivered = Some v }) m t

may_ready_at-once : (g : Group) (votes : List Vote) (w : List ℕ) (d : Option (List ℕ)) (v : List ℕ) → may_ready_at (stage g votes (Some w) d) v ≡ false
unfolding may_ready_at stage
may_ready_at-once g votes w d v = refl

may_deliver_at-once : (g : Group) (votes : List Vote) (r : Option (List ℕ)) (w v : List ℕ) → may_deliver_at (stage g votes r (Some w)) v ≡ false
unfolding may_deliver_at stage
may_deliver_at-once g votes r w v = refl

now_ready-stage-yes : (g : Group) (votes : List Vote) (d : Option (List ℕ)) (v : List ℕ) → g.own < g.members → may_ready g votes v ≡ true → now_ready (stage g votes None d) v ≡ stage g votes (Some v) d
unfolding stage
now_ready-stage-yes g votes d v member t =
    now_ready-yes (stage g votes None d) v (may_ready_at-stage g votes d v ∙ t) ∙ stage-readied g votes d v member

now_ready-stage-not : (g : Group) (votes : List Vote) (d : Option (List ℕ)) (v : List ℕ) → may_ready g votes v ≡ false → now_ready (stage g votes None d) v ≡ stage g votes None d
now_ready-stage-not g votes d v t = now_ready-not (stage g votes None d) v (may_ready_at-stage g votes d v ∙ t)

now_delivered-stage-yes : (g : Group) (votes : List Vote) (v : List ℕ) → may_deliver g votes v ≡ true → now_delivered (stage g votes (readied g votes) None) v ≡ stage g votes (readied g votes) (Some v)
unfolding stage
now_delivered-stage-yes g votes v t = now_delivered-yes (stage g votes (readied g votes) None) v (may_deliver_at-stage g votes v ∙ t)

now_delivered-stage-not : (g : Group) (votes : List Vote) (v : List ℕ) → may_deliver g votes v ≡ false → now_delivered (stage g votes (readied g votes) None) v ≡ stage g votes (readied g votes) None
now_delivered-stage-not g votes v t = now_delivered-not (stage g votes (readied g votes) None) v (may_deliver_at-stage g votes v ∙ t)

module _ (g : Group) (votes : List Vote) (x : Vote) (member : g.own < g.members) where
  now_ready-follows : (d r : Option (List ℕ)) → readied g votes ≡ r → now_ready (stage g (votes ++ x ∷ []) r d) (value_of x) ≡ stage g (votes ++ x ∷ []) (readied g (votes ++ x ∷ [])) d
  now_ready-follows d (Some w) e =
      let stays : readied g (votes ++ x ∷ []) ≡ Some w = readied-push g votes x ∙ ap (λ o. option_or o (cond (may_ready g (votes ++ x ∷ []) (value_of x)) (Some (value_of x)) None)) e in
      now_ready-not (stage g (votes ++ x ∷ []) (Some w) d) (value_of x) (may_ready_at-once g (votes ++ x ∷ []) w d (value_of x))
      ∙ ap (λ r. stage g (votes ++ x ∷ []) r d) (sym stays)
  now_ready-follows d None e =
      let comes : readied g (votes ++ x ∷ []) ≡ cond (may_ready g (votes ++ x ∷ []) (value_of x)) (Some (value_of x)) None = readied-push g votes x ∙ ap (λ o. option_or o (cond (may_ready g (votes ++ x ∷ []) (value_of x)) (Some (value_of x)) None)) e in
      either (cases_Bool (may_ready g (votes ++ x ∷ []) (value_of x)))
      (λ t. now_ready-stage-yes g (votes ++ x ∷ []) d (value_of x) member t
      ∙ ap (λ r. stage g (votes ++ x ∷ []) r d) (sym (comes ∙ ap (λ b. cond b (Some (value_of x)) None) t)))
      (λ t. now_ready-stage-not g (votes ++ x ∷ []) d (value_of x) t
      ∙ ap (λ r. stage g (votes ++ x ∷ []) r d) (sym (comes ∙ ap (λ b. cond b (Some (value_of x)) None) t)))

  now_delivered-follows : (d : Option (List ℕ)) → delivered g votes ≡ d → now_delivered (stage g (votes ++ x ∷ []) (readied g (votes ++ x ∷ [])) d) (value_of x) ≡ stage g (votes ++ x ∷ []) (readied g (votes ++ x ∷ [])) (delivered g (votes ++ x ∷ []))
  now_delivered-follows (Some w) e =
      let stays : delivered g (votes ++ x ∷ []) ≡ Some w = delivered-push g votes x ∙ ap (λ o. option_or o (cond (may_deliver g (votes ++ x ∷ []) (value_of x)) (Some (value_of x)) None)) e in
      now_delivered-not (stage g (votes ++ x ∷ []) (readied g (votes ++ x ∷ [])) (Some w)) (value_of x) (may_deliver_at-once g (votes ++ x ∷ []) (readied g (votes ++ x ∷ [])) w (value_of x))
      ∙ ap (stage g (votes ++ x ∷ []) (readied g (votes ++ x ∷ []))) (sym stays)
  now_delivered-follows None e =
      let comes : delivered g (votes ++ x ∷ []) ≡ cond (may_deliver g (votes ++ x ∷ []) (value_of x)) (Some (value_of x)) None = delivered-push g votes x ∙ ap (λ o. option_or o (cond (may_deliver g (votes ++ x ∷ []) (value_of x)) (Some (value_of x)) None)) e in
      either (cases_Bool (may_deliver g (votes ++ x ∷ []) (value_of x)))
      (λ t. now_delivered-stage-yes g (votes ++ x ∷ []) (value_of x) t
      ∙ ap (stage g (votes ++ x ∷ []) (readied g (votes ++ x ∷ []))) (sym (comes ∙ ap (λ b. cond b (Some (value_of x)) None) t)))
      (λ t. now_delivered-stage-not g (votes ++ x ∷ []) (value_of x) t
      ∙ ap (stage g (votes ++ x ∷ []) (readied g (votes ++ x ∷ []))) (sym (comes ∙ ap (λ b. cond b (Some (value_of x)) None) t)))

  -- with this vote in its place and nothing else done, all follows by `settled`
  pub settles : settled (stage g (votes ++ x ∷ []) (readied g votes) (delivered g votes)) (value_of x) ≡ meaning_of g (votes ++ x ∷ [])
  unfolding settled
  settles =
      ap (λ m. now_delivered m (value_of x)) (now_ready-follows (delivered g votes) (readied g votes) refl)
      ∙ now_delivered-follows (delivered g votes) refl
      ∙ sym (stage-all g (votes ++ x ∷ []))

-- where all has followed, nothing does
pub settled-again : (g : Group) (votes : List Vote) (v : List ℕ) → settled (meaning_of g votes) v ≡ meaning_of g votes
unfolding settled
settled-again g votes v =
    ap (λ m. now_delivered (now_ready m v) v) (stage-all g votes)
    ∙ ap (λ m. now_delivered m v) (ready (readied g votes) refl)
    ∙ deliver (delivered g votes) refl
    ∙ sym (stage-all g votes) where
      ready : (r : Option (List ℕ)) → readied g votes ≡ r → now_ready (stage g votes (readied g votes) (delivered g votes)) v ≡ stage g votes (readied g votes) (delivered g votes)
      ready (Some w) e = rw e (now_ready-not (stage g votes (Some w) (delivered g votes)) v (may_ready_at-once g votes w (delivered g votes) v))
      ready None e = rw e (now_ready-stage-not g votes (delivered g votes) v (ready_not_yet g votes e v))

      deliver : (d : Option (List ℕ)) → delivered g votes ≡ d → now_delivered (stage g votes (readied g votes) (delivered g votes)) v ≡ stage g votes (readied g votes) (delivered g votes)
      deliver (Some w) e = rw e (now_delivered-not (stage g votes (readied g votes) (Some w)) v (may_deliver_at-once g votes (readied g votes) w v))
      deliver None e = rw e (now_delivered-stage-not g votes v (deliver_not_yet g votes e v))

-- one's own place, and another's
pub echo_of-own : (g : Group) (votes : List Vote) → echo_of g votes g.own ≡ echoed votes
unfolding echo_of
echo_of-own g votes = cond-true (eqb g.own g.own) (echoed votes) (find_map (echoed_by g.own) votes) (eq-eqb g.own g.own refl)

pub echo_of-other : (g : Group) (votes : List Vote) (p : ℕ) → p ≢ g.own → echo_of g votes p ≡ find_map (echoed_by p) votes
unfolding echo_of
echo_of-other g votes p ne = cond-false (eqb p g.own) (echoed votes) (find_map (echoed_by p) votes) (ne_eqb p g.own ne)

pub readys_with-other : (g : Group) (votes : List Vote) (r : Option (List ℕ)) (p : ℕ) → p ≢ g.own → readys_with g votes r p ≡ find_map (readied_by p) votes
unfolding readys_with
readys_with-other g votes r p ne = cond-false (eqb p g.own) r (find_map (readied_by p) votes) (ne_eqb p g.own ne)

-- a vote that isn't p's leaves p's as it was
pub find_map-push-None : (f : Vote → Option (List ℕ)) (votes : List Vote) (x : Vote) → f x ≡ None → find_map f (votes ++ x ∷ []) ≡ find_map f votes
find_map-push-None f votes x e = find_map-push f votes x ∙ ap (option_or (find_map f votes)) e ∙ option_or-None (find_map f votes)

find_map-push-first : (f : Vote → Option (List ℕ)) (votes : List Vote) (x : Vote) → find_map f votes ≡ None → find_map f (votes ++ x ∷ []) ≡ f x
find_map-push-first f votes x e = find_map-push f votes x ∙ ap (λ o. option_or o (f x)) e

pub find_map-push-again : (f : Vote → Option (List ℕ)) (votes : List Vote) (x : Vote) (w : List ℕ) → find_map f votes ≡ Some w → find_map f (votes ++ x ∷ []) ≡ find_map f votes
find_map-push-again f votes x w e = find_map-push f votes x ∙ ap (λ o. option_or o (f x)) e ∙ sym e

readys_with-push-None : (g : Group) (votes : List Vote) (x : Vote) (r : Option (List ℕ)) (p : ℕ) → readied_by p x ≡ None → readys_with g (votes ++ x ∷ []) r p ≡ readys_with g votes r p
unfolding readys_with
readys_with-push-None g votes x r p e = ap (cond (eqb p g.own) r) (find_map-push-None (readied_by p) votes x e)

echo_of-push-None : (g : Group) (votes : List Vote) (x : Vote) (p : ℕ) → value_if_send x ≡ None → echoed_by p x ≡ None → echo_of g (votes ++ x ∷ []) p ≡ echo_of g votes p
unfolding echo_of echoed
echo_of-push-None g votes x p s e = ap₂ (cond (eqb p g.own)) (find_map-push-None value_if_send votes x s) (find_map-push-None (echoed_by p) votes x e)

echoed_by-self : (p : ℕ) (v : List ℕ) → echoed_by p (Echo p v) ≡ Some v
unfolding echoed_by
echoed_by-self p v = cond-true (eqb p p) (Some v) None (eq-eqb p p refl)

pub echoed_by-other : (p q : ℕ) (v : List ℕ) → p ≢ q → echoed_by p (Echo q v) ≡ None
unfolding echoed_by
echoed_by-other p q v ne = cond-false (eqb q p) (Some v) None (ne_eqb q p (λ e. ne (sym e)))

readied_by-self : (p : ℕ) (v : List ℕ) → readied_by p (Ready p v) ≡ Some v
unfolding readied_by
readied_by-self p v = cond-true (eqb p p) (Some v) None (eq-eqb p p refl)

pub readied_by-other : (p q : ℕ) (v : List ℕ) → p ≢ q → readied_by p (Ready q v) ≡ None
unfolding readied_by
readied_by-other p q v ne = cond-false (eqb q p) (Some v) None (ne_eqb q p (λ e. ne (sym e)))

pub readied_by-send : (p : ℕ) (v : List ℕ) → readied_by p (Send v) ≡ None
unfolding readied_by
readied_by-send p v = refl

pub readied_by-echo : (p q : ℕ) (v : List ℕ) → readied_by p (Echo q v) ≡ None
unfolding readied_by
readied_by-echo p q v = refl

pub echoed_by-send : (p : ℕ) (v : List ℕ) → echoed_by p (Send v) ≡ None
unfolding echoed_by
echoed_by-send p v = refl

pub echoed_by-ready : (p q : ℕ) (v : List ℕ) → echoed_by p (Ready q v) ≡ None
unfolding echoed_by
echoed_by-ready p q v = refl

pub value_if_send-echo : (q : ℕ) (v : List ℕ) → value_if_send (Echo q v) ≡ None
unfolding value_if_send
value_if_send-echo q v = refl

pub value_if_send-ready : (q : ℕ) (v : List ℕ) → value_if_send (Ready q v) ≡ None
unfolding value_if_send
value_if_send-ready q v = refl

same_readys : (g : Group) (votes : List Vote) (x : Vote) (r : Option (List ℕ)) → ((p : ℕ) → readied_by p x ≡ None) → map (readys_with g votes r) (range_with_len 0 g.members) ≡ map (readys_with g (votes ++ x ∷ []) r) (range_with_len 0 g.members)
same_readys g votes x r e = sym (map-same (readys_with g (votes ++ x ∷ []) r) (readys_with g votes r) (λ p. readys_with-push-None g votes x r p (e p)) (range_with_len 0 g.members))

same_echoes : (g : Group) (votes : List Vote) (x : Vote) → value_if_send x ≡ None → ((p : ℕ) → echoed_by p x ≡ None) → map (echo_of g votes) (range_with_len 0 g.members) ≡ map (echo_of g (votes ++ x ∷ [])) (range_with_len 0 g.members)
same_echoes g votes x s e = sym (map-same (echo_of g (votes ++ x ∷ [])) (echo_of g votes) (λ p. echo_of-push-None g votes x p s (e p)) (range_with_len 0 g.members))

-- the first vote of its place, written there
pub first_send : (g : Group) (votes : List Vote) (v : List ℕ) → g.own < g.members → echoed votes ≡ None → with_send (meaning_of g votes) v ≡ stage g (votes ++ Send v ∷ []) (readied g votes) (delivered g votes)
unfolding value_if_send stage
first_send g votes v member none = ap (λ m. with_send m v) (stage-all g votes) ∙ written where
  now : echoed (votes ++ Send v ∷ []) ≡ Some v
  now = echoed-push votes (Send v) ∙ ap (λ o. option_or o (Some v)) none

  echoes : set (map (echo_of g votes) (range_with_len 0 g.members)) g.own (Some v) ≡ map (echo_of g (votes ++ Send v ∷ [])) (range_with_len 0 g.members)
  echoes = sym (map-range-set (echo_of g votes) (echo_of g (votes ++ Send v ∷ [])) g.members g.own (Some v) member
      (λ p ne. echo_of-other g (votes ++ Send v ∷ []) p ne ∙ find_map-push-None (echoed_by p) votes (Send v) (echoed_by-send p v) ∙ sym (echo_of-other g votes p ne))
      (echo_of-own g (votes ++ Send v ∷ []) ∙ now))

  readys : map (readys_with g votes (readied g votes)) (range_with_len 0 g.members) ≡ map (readys_with g (votes ++ Send v ∷ []) (readied g votes)) (range_with_len 0 g.members)
  readys = same_readys g votes (Send v) (readied g votes) (λ p. readied_by-send p v)

  written : with_send (stage g votes (readied g votes) (delivered g votes)) v ≡ stage g (votes ++ Send v ∷ []) (readied g votes) (delivered g votes)
  written = λ i. record { group = g; echoed = sym now i; echoes = echoes i; readied = readied g votes; readys = readys i; delivered = delivered g votes }

pub first_echo : (g : Group) (votes : List Vote) (q : ℕ) (v : List ℕ) → q < g.members → q ≢ g.own → find_map (echoed_by q) votes ≡ None → with_echo (meaning_of g votes) q v ≡ stage g (votes ++ Echo q v ∷ []) (readied g votes) (delivered g votes)
unfolding stage echoed
first_echo g votes q v below foreign none = ap (λ m. with_echo m q v) (stage-all g votes) ∙ written where
  same_echoed : echoed votes ≡ echoed (votes ++ Echo q v ∷ [])
  same_echoed = sym (find_map-push-None value_if_send votes (Echo q v) (value_if_send-echo q v))

  others : (p : ℕ) → p ≢ q → echo_of g (votes ++ Echo q v ∷ []) p ≡ echo_of g votes p
  others p ne = echo_of-push-None g votes (Echo q v) p (value_if_send-echo q v) (echoed_by-other p q v ne)

  echoes : set (map (echo_of g votes) (range_with_len 0 g.members)) q (Some v) ≡ map (echo_of g (votes ++ Echo q v ∷ [])) (range_with_len 0 g.members)
  echoes = sym (map-range-set (echo_of g votes) (echo_of g (votes ++ Echo q v ∷ [])) g.members q (Some v) below others
      (echo_of-other g (votes ++ Echo q v ∷ []) q foreign ∙ find_map-push-first (echoed_by q) votes (Echo q v) none ∙ echoed_by-self q v))

  readys : map (readys_with g votes (readied g votes)) (range_with_len 0 g.members) ≡ map (readys_with g (votes ++ Echo q v ∷ []) (readied g votes)) (range_with_len 0 g.members)
  readys = same_readys g votes (Echo q v) (readied g votes) (λ p. readied_by-echo p q v)

  written : with_echo (stage g votes (readied g votes) (delivered g votes)) q v ≡ stage g (votes ++ Echo q v ∷ []) (readied g votes) (delivered g votes)
  written = λ i. record { group = g; echoed = same_echoed i; echoes = echoes i; readied = readied g votes; readys = readys i; delivered = delivered g votes }

pub first_ready : (g : Group) (votes : List Vote) (q : ℕ) (v : List ℕ) → q < g.members → q ≢ g.own → find_map (readied_by q) votes ≡ None → with_ready (meaning_of g votes) q v ≡ stage g (votes ++ Ready q v ∷ []) (readied g votes) (delivered g votes)
unfolding stage echoed
first_ready g votes q v below foreign none = ap (λ m. with_ready m q v) (stage-all g votes) ∙ written where
  same_echoed : echoed votes ≡ echoed (votes ++ Ready q v ∷ [])
  same_echoed = sym (find_map-push-None value_if_send votes (Ready q v) (value_if_send-ready q v))

  echoes : map (echo_of g votes) (range_with_len 0 g.members) ≡ map (echo_of g (votes ++ Ready q v ∷ [])) (range_with_len 0 g.members)
  echoes = same_echoes g votes (Ready q v) (value_if_send-ready q v) (λ p. echoed_by-ready p q v)

  readys : set (map (readys_with g votes (readied g votes)) (range_with_len 0 g.members)) q (Some v) ≡ map (readys_with g (votes ++ Ready q v ∷ []) (readied g votes)) (range_with_len 0 g.members)
  readys = sym (map-range-set (readys_with g votes (readied g votes)) (readys_with g (votes ++ Ready q v ∷ []) (readied g votes)) g.members q (Some v) below
      (λ p ne. readys_with-push-None g votes (Ready q v) (readied g votes) p (readied_by-other p q v ne))
      (readys_with-other g (votes ++ Ready q v ∷ []) (readied g votes) q foreign ∙ find_map-push-first (readied_by q) votes (Ready q v) none ∙ readied_by-self q v))

  written : with_ready (stage g votes (readied g votes) (delivered g votes)) q v ≡ stage g (votes ++ Ready q v ∷ []) (readied g votes) (delivered g votes)
  written = λ i. record { group = g; echoed = same_echoed i; echoes = echoes i; readied = readied g votes; readys = readys i; delivered = delivered g votes }
