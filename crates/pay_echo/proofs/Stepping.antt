-- The step function gives the meaning of one vote more, and what the vote makes known.
use Rattle.std.proofs.Common.{◌≡◌, ◌≢◌, ℕ, ◌+◌, ◌*◌, ◌<◌, Bool, true, false, cond, ◌&&◌, ◌||◌, eqb, ltb, List, [], ◌∷◌, ◌++◌, length, get_or, set, Option, None, Some, is_none, count_by, refl, sym, ap, ap₂, ◌∙◌, add-zero, zero-add, get_or-set_other, eq-eqb, length-set}
use Rattle.std.proofs.lemmas.Bool.{cond-true, and_parts}
use Rattle.std.proofs.lemmas.List.Sums.{sum_by-set}
use Rattle.std.proofs.lemmas.List.FromFn.{get_or-map-range_with_len, length-map-range_with_len}
use Rattle.pay_echo.specs.Broadcast.{Group, Vote, Send, Echo, Ready, IsForeign, value_of, is_for, echo_of, ready_of, readied, find_map, readied_by}
use Rattle.pay_echo.specs.Meaning.{Meaning, meaning_of, became}
use Rattle.pay_echo.specs.Moves.{IsMoves}
use Rattle.pay_echo.specs.Step.{vote_at, vote_before, can_ready, can_deliver, moves_by, with_vote, is_send, IsPlaced, after}
use Rattle.pay_echo.proofs.Lists.{one, bytes_eq-same}
use Rattle.pay_echo.proofs.Settling.{may_ready_at, may_deliver_at, now_delivered, settled, with_send, with_echo, with_ready}
use Rattle.pay_echo.proofs.StepLaw.{now_ready-yes, now_ready-not, now_delivered-yes, now_delivered-not, echo_of-own}
use Rattle.pay_echo.proofs.SecondVotes.{echo_at, ready_at, push_send, push_echo, push_ready}

-- a vote written in an empty place counts for its value
count_by-first : (v : List ℕ) (votes : List (Option (List ℕ))) (p : ℕ) → p < length votes → get_or votes p None ≡ None → count_by (is_for v) (set votes p (Some v)) ≡ count_by (is_for v) votes + 1
unfolding is_for
count_by-first v votes p below none =
    let test : Option (List ℕ) → ℕ = λ o. one (is_for v o) in
    let here : test (Some v) ≡ 1 = ap one (bytes_eq-same v) in
    let empty : test (get_or votes p None) ≡ 0 = ap test none in
    sym (add-zero (count_by (is_for v) (set votes p (Some v))))
    ∙ ap (λ k. count_by (is_for v) (set votes p (Some v)) + k) (sym empty)
    ∙ sum_by-set test votes p (Some v) None below
    ∙ ap (λ k. count_by (is_for v) votes + k) here

-- READY and the delivery, as they are due
abbrev tell : Meaning → List ℕ → Bool → Bool → Meaning
tell n v ready deliver =
    record n {
      readied = cond ready (Some v) n.readied;
      readys = cond ready (set n.readys n.group.own (Some v)) n.readys;
      delivered = cond deliver (Some v) n.delivered;
    }

now_delivered-tell : (n : Meaning) (v : List ℕ) (deliver : Bool) → may_deliver_at n v ≡ deliver → now_delivered n v ≡ record n { delivered = cond deliver (Some v) n.delivered }
now_delivered-tell n v true e = now_delivered-yes n v e
now_delivered-tell n v false e = now_delivered-not n v e

settled-tell : (n : Meaning) (v : List ℕ) (ready deliver : Bool) → may_ready_at n v ≡ ready → may_deliver_at (tell n v ready false) v ≡ deliver → settled n v ≡ tell n v ready deliver
unfolding settled
settled-tell n v true deliver e d = ap (λ m. now_delivered m v) (now_ready-yes n v e) ∙ now_delivered-tell (tell n v true false) v deliver d
settled-tell n v false deliver e d = ap (λ m. now_delivered m v) (now_ready-not n v e) ∙ now_delivered-tell n v deliver d

-- the same by counts of the votes for the value
settled-counts : (n : Meaning) (v : List ℕ) (echoes readys : ℕ) → count_by (is_for v) n.echoes ≡ echoes → count_by (is_for v) n.readys ≡ readys → n.group.own < length n.readys → n.readied ≡ vote_at n.readys n.group.own → settled n v ≡ tell n v (can_ready n echoes readys) (can_deliver n (readys + cond (can_ready n echoes readys) 1 0))
unfolding may_ready_at may_deliver_at
settled-counts n v echoes readys echoes_are readys_are below own =
    settled-tell n v (can_ready n echoes readys) (can_deliver n (readys + cond (can_ready n echoes readys) 1 0)) may (then (can_ready n echoes readys) refl) where
      may : may_ready_at n v ≡ can_ready n echoes readys
      may = ap₂ (λ (a b : ℕ). is_none n.readied && (ltb (n.group.members + n.group.faults) (2 * a) || ltb n.group.faults b)) echoes_are readys_are

      empty : (o : Option (List ℕ)) → is_none o ≡ true → o ≡ None
      empty None e = refl
      empty (Some w) e = cc

      then : (ready : Bool) → can_ready n echoes readys ≡ ready → may_deliver_at (tell n v ready false) v ≡ can_deliver n (readys + cond ready 1 0)
      then true e =
          let none = sym own ∙ empty n.readied (and_parts (is_none n.readied) (ltb (n.group.members + n.group.faults) (2 * echoes) || ltb n.group.faults readys) e).0 in
          ap (λ (a : ℕ). is_none n.delivered && ltb (2 * n.group.faults) a) (count_by-first v n.readys n.group.own below none ∙ ap (λ k. k + 1) readys_are)
      then false e = ap (λ (a : ℕ). is_none n.delivered && ltb (2 * n.group.faults) a) (readys_are ∙ sym (add-zero readys))

module _ (m : Meaning) (placed : IsPlaced m) where
  settled-send : (v : List ℕ) → m.echoed ≡ None → settled (with_send m v) v ≡ with_vote m (Send v)
  unfolding with_vote moves_by value_of
  settled-send v none =
      settled-counts (with_send m v) v (count_by (is_for v) m.echoes + 1) (count_by (is_for v) m.readys)
      (count_by-first v m.echoes m.group.own (rw placed.echoes placed.own) (sym placed.echoed ∙ none)) refl (rw placed.readys placed.own) placed.readied

  settled-echo : (p : ℕ) (v : List ℕ) → p < m.group.members → vote_at m.echoes p ≡ None → settled (with_echo m p v) v ≡ with_vote m (Echo p v)
  unfolding with_vote moves_by value_of
  settled-echo p v below none =
      settled-counts (with_echo m p v) v (count_by (is_for v) m.echoes + 1) (count_by (is_for v) m.readys)
      (count_by-first v m.echoes p (rw placed.echoes below) none) refl (rw placed.readys placed.own) placed.readied

  settled-ready : (p : ℕ) (v : List ℕ) → p < m.group.members → p ≢ m.group.own → vote_at m.readys p ≡ None → settled (with_ready m p v) v ≡ with_vote m (Ready p v)
  unfolding with_vote moves_by value_of
  settled-ready p v below foreign none =
      settled-counts (with_ready m p v) v (count_by (is_for v) m.echoes) (count_by (is_for v) m.readys + 1)
      refl (count_by-first v m.readys p (rw placed.readys below) none) (rw (length-set m.readys p (Some v), placed.readys) placed.own)
      (placed.readied ∙ sym (get_or-set_other m.readys p m.group.own (Some v) None (λ e. foreign (sym e))))

-- what votes make known is placed
pub meaning_of-IsPlaced : (g : Group) (votes : List Vote) → g.own < g.members → IsPlaced (meaning_of g votes)
unfolding meaning_of ready_of
meaning_of-IsPlaced g votes member =
    record {
      own = member;
      echoes = length-map-range_with_len (echo_of g votes) 0 g.members;
      readys = length-map-range_with_len (ready_of g votes) 0 g.members;
      echoed = sym (get_or-map-range_with_len (echo_of g votes) 0 g.members g.own g.own None member (zero-add g.own) ∙ echo_of-own g votes);
      readied = sym (get_or-map-range_with_len (ready_of g votes) 0 g.members g.own g.own None member (zero-add g.own) ∙ ready_of-own);
    } where
      ready_of-own : ready_of g votes g.own ≡ readied g votes
      ready_of-own = cond-true (eqb g.own g.own) (readied g votes) (find_map (readied_by g.own) votes) (eq-eqb g.own g.own refl)

-- the meaning over one vote more
pub meaning-push : (g : Group) (votes : List Vote) (x : Vote) → g.own < g.members → IsForeign g x → meaning_of g (votes ++ x ∷ []) ≡ after (meaning_of g votes) x
unfolding meaning_of
meaning-push g votes x member foreign = go x foreign (vote_before (meaning_of g votes) x) refl where
  placed : IsPlaced (meaning_of g votes)
  placed = meaning_of-IsPlaced g votes member

  go : (x : Vote) → IsForeign g x → (o : Option (List ℕ)) → vote_before (meaning_of g votes) x ≡ o → meaning_of g (votes ++ x ∷ []) ≡ cond (is_none o) (with_vote (meaning_of g votes) x) (meaning_of g votes)
  go (Send v) foreign None e = push_send g votes member v None e ∙ settled-send (meaning_of g votes) placed v e
  go (Send v) foreign (Some w) e = push_send g votes member v (Some w) e
  go (Echo q v) foreign None e = push_echo g votes member q v foreign.0 foreign.1 None (sym (echo_at g votes q foreign.0 foreign.1) ∙ e) ∙ settled-echo (meaning_of g votes) placed q v foreign.0 e
  go (Echo q v) foreign (Some w) e = push_echo g votes member q v foreign.0 foreign.1 (Some w) (sym (echo_at g votes q foreign.0 foreign.1) ∙ e)
  go (Ready q v) foreign None e = push_ready g votes member q v foreign.0 foreign.1 None (sym (ready_at g votes q foreign.0 foreign.1) ∙ e) ∙ settled-ready (meaning_of g votes) placed q v foreign.0 foreign.1 e
  go (Ready q v) foreign (Some w) e = push_ready g votes member q v foreign.0 foreign.1 (Some w) (sym (ready_at g votes q foreign.0 foreign.1) ∙ e)

-- ---- what it makes known

nothing-became : (o : Option (List ℕ)) → false ≡ became o o
nothing-became None = refl
nothing-became (Some v) = refl

pub unchanged-IsMoves : (m : Meaning) → IsMoves m m (record { echo = false; ready = false; deliver = false })
unchanged-IsMoves m = record { echo = nothing-became m.echoed; ready = nothing-became m.readied; deliver = nothing-became m.delivered }

became-due : (o : Option (List ℕ)) (test : Bool) (v : List ℕ) → (is_none o && test) ≡ became o (cond (is_none o && test) (Some v) o)
became-due None true v = refl
became-due None false v = refl
became-due (Some w) test v = refl

pub with_vote-IsMoves : (m : Meaning) (x : Vote) → vote_before m x ≡ None → IsMoves m (with_vote m x) (moves_by m x)
unfolding with_vote moves_by value_of
with_vote-IsMoves m x none =
    record {
      echo = echo x none;
      ready = became-due m.readied _ (value_of x);
      deliver = became-due m.delivered _ (value_of x);
    } where
      first : (o : Option (List ℕ)) (v : List ℕ) → o ≡ None → true ≡ became o (Some v)
      first None v e = refl
      first (Some w) v e = cc

      echo : (y : Vote) → vote_before m y ≡ None → is_send y ≡ became m.echoed (cond (is_send y) (Some (value_of y)) m.echoed)
      echo (Send v) e = first m.echoed v e
      echo (Echo p v) e = nothing-became m.echoed
      echo (Ready p v) e = nothing-became m.echoed
