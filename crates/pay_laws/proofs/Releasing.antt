-- A released member's folder lacks no value that was delivered before its start.
use Rattle.std.proofs.Common.{◌≡◌, ◌≢◌, inl, inr, ℕ, ◌+◌, ◌*◌, ◌<◌, ◌≤◌, Bool, true, false, cond, eqb, ltb, ◌&&◌, ◌||◌, List, [], ◌++◌, length, get_or, take, drop, slice_get, Option, None, Some, Contains, refl, sym, ap, ◌∙◌, subst, arith, append-nil, length-take, take-append-drop, take_all, true≢false, eq-eqb, eqb-true, lt-ltb, ltb-true}
use Rattle.std.proofs.lemmas.Bool.{and_parts, cases_eq, leb-true, or_parts}
use Rattle.std.proofs.lemmas.Option.{slice_get-get_or}
use Rattle.pay_frame.specs.declared.body.Kind.TheVariants.{Send, Echo, Ready}
use Rattle.pay_frame.specs.Frame.{BodyFields}
use Rattle.pay_echo.specs.Broadcast.{size, echo_set, ready_set, echoed, echo_of, readied}
use Rattle.pay_echo.specs.Laws.{InEchoSet, InReadySet, OwnEcho, SendCame, EchoCame, ReadyCame, WhyDelivered}
use Rattle.pay_echo.specs.Quorums.{PartIsSmaller, QuorumsShare, LargerHasAnother}
use Rattle.pay_channel.specs.Prefix.{IsPrefix}
use Rattle.pay_channel.specs.History.{Event, From, body_of, votes, out, delivered_at}
use Rattle.pay_channel.specs.ListLaws.{DeliveredIs}
use Rattle.pay_channel.specs.SentLaws.{OutGrows, EchoIsSaid, ReadyIsSaid}
use Rattle.pay_channel.specs.Taken.{taken_bodies, next}
use Rattle.pay_channel.specs.TakenLaws.{NothingTakenAtFirst, TakenGrows, TakenIsFrom, NextByOneMore}
use Rattle.pay_channel.specs.VoteLaws.{EchoIsTaken, ReadyIsTaken, SendIsTaken}
use Rattle.pay_node.specs.Comparing.{ComparingFields, is_within, count_beyond, count_within, standing_of}
use Rattle.pay_node.specs.declared.comparing.Standing.TheVariants.{Waiting, Free, Forgotten}
use Rattle.pay_world.specs.Setting.{Setting, group_at, IsCorrect, HasFewFaulty}
use Rattle.pay_world.specs.StandLaws.{GenuineStands, Integrity}
use Rattle.pay_world.specs.Stands.{Stands}
use Rattle.pay_laws.specs.Restarts.{Step, AreFair, history_by_steps, RestartIsNoLie}
use Rattle.pay_laws.specs.Challenges.{Happening, steps_in, AreUnforged, MemberStart, all_around, HasFreshNonce, ComparesNoted}
use Rattle.pay_laws.specs.Released.{DeliveredWasAsked, FirstTakenIsFirstSent, IsTakenAmong, ReleasedHasDelivered}
use Rattle.pay_laws.proofs.Claims.{within}
use Rattle.pay_laws.proofs.Keeping.{Left, left, Restarted, restarted, restarts}
use Rattle.pay_laws.proofs.Noting.{claim_since, fair_until, steps_append}
use Rattle.pay_laws.proofs.Sizes.{count_is_size, size_of_either, size_of_one, size_with}
use Rattle.pay_laws.proofs.Splits.{prefix_Contains, prefix_is_shorter, prefix_of_longer, prefix_trans, take_is_prefix}

-- what it stands on
pub record Laws : Type 0 where
  pub in_echo_set : InEchoSet
  pub in_ready_set : InReadySet
  pub own_echo : OwnEcho
  pub send_came : SendCame
  pub echo_came : EchoCame
  pub ready_came : ReadyCame
  pub why_delivered : WhyDelivered
  pub part : PartIsSmaller
  pub share : QuorumsShare
  pub another : LargerHasAnother
  pub nothing_taken : NothingTakenAtFirst
  pub taken_grows : TakenGrows
  pub taken_is_from : TakenIsFrom
  pub one_more : NextByOneMore
  pub out_grows : OutGrows
  pub echo_is_said : EchoIsSaid
  pub ready_is_said : ReadyIsSaid
  pub echo_is_taken : EchoIsTaken
  pub ready_is_taken : ReadyIsTaken
  pub send_is_taken : SendIsTaken
  pub delivered_is : DeliveredIs
  pub genuine_stands : GenuineStands
  pub no_lie : RestartIsNoLie

-- ---- tests

or_other : (a b : Bool) → (a || b) ≡ true → a ≡ false → b ≡ true
or_other true b is other = absurd (true≢false other)
or_other false b is other = is

free_is : (a b : Bool) → cond a Forgotten (cond b Free Waiting) ≡ Free → b ≡ true
free_is true b is = absurd cc
free_is false true is = refl
free_is false false is = absurd cc

module _ (laws : Laws) (w : Setting) (few : HasFewFaulty w) where
  by_steps : List Step → ℕ → List Event
  by_steps steps i = history_by_steps w steps i

  stands_by : (steps : List Step) → AreFair w steps → Stands w (history_by_steps w steps)
  stands_by steps fair =
      let by = laws.no_lie w steps fair in
      subst (Stands w) (λ k i. by.2 i k) (laws.genuine_stands w by.0 few by.1)

  out_of_take : (r k : ℕ) (history : List Event) → IsPrefix (out (group_at w r) (take k history)) (out (group_at w r) history)
  out_of_take r k history =
      subst (λ (h : List Event). IsPrefix (out (group_at w r) (take k history)) (out (group_at w r) h)) (take-append-drop k history)
      (laws.out_grows (group_at w r) (take k history) (drop k history))

  -- Another correct member is among those by whose READYs a member delivers, if the owner is faulty.
  another_is_ready :
      (history : List Event) (i a s : ℕ) (v : List ℕ) → a < w.members → w.faulty a ≡ true
      → delivered_at (group_at w i) history a s ≡ Some v
      → (r : ℕ) × IsCorrect w r × Contains (taken_bodies r history) (body_of Ready a s v)
  another_is_ready history i a s v member bad is =
      let g = group_at w i in
      let ones = ready_set g (votes i a s history) v in
      let many = laws.why_delivered g (votes i a s history) v (sym (laws.delivered_is g history a s) ∙ is) in
      let most = few.few in
      let single = size_with w.members a (λ p. false) member refl in
      let bads = laws.part w.members (λ p. eqb p a || false) w.faulty (λ p below here. ap w.faulty (eqb-true p a (either_false p here)) ∙ bad) in
      let alone = size_of_one w.members i in
      let both = size_of_either w.members (λ p. eqb p i) w.faulty in
      let found = laws.another w.members ones (λ p. eqb p i || w.faulty p) (omega arith) in
      let r = found.0 in
      let parts = or_parts (eqb r i) (w.faulty r) found.3 in
      let other : r ≢ i = λ same. true≢false (sym (eq-eqb r i same) ∙ parts.0) in
      let heard = (laws.in_ready_set g (votes i a s history) v r).0 found.2 in
      let came = laws.ready_came g (votes i a s history) r v other heard in
      (r, record { member = found.1; honest = parts.1 }, (laws.taken_is_from r history (body_of Ready a s v)).1 ((laws.ready_is_taken i a s history r v).0 came)) where
        either_false : (p : ℕ) → (eqb p a || false) ≡ true → eqb p a ≡ true
        either_false p is = go (eqb p a) is where
          go : (b : Bool) → (b || false) ≡ true → b ≡ true
          go true is = refl
          go false is = is

  -- what is echoed at another one's, was echoed
  heard_echo :
      (steps : List Step) (i j a s : ℕ) (v : List ℕ) → Stands w (history_by_steps w steps) → IsCorrect w i → IsCorrect w j
      → echo_of (group_at w i) (votes i a s (history_by_steps w steps i)) j ≡ Some v
      → echoed (votes j a s (history_by_steps w steps j)) ≡ Some v
  heard_echo steps i j a s v stands ci cj heard = elim (cases_eq j i) [
    | inl same ↦
        ap (λ k. echoed (votes k a s (history_by_steps w steps k))) same
        ∙ sym (laws.own_echo (group_at w i) (votes i a s (history_by_steps w steps i)))
        ∙ sym (ap (echo_of (group_at w i) (votes i a s (history_by_steps w steps i))) same)
        ∙ heard
    | inr other ↦
        let came = laws.echo_came (group_at w i) (votes i a s (history_by_steps w steps i)) j v other heard in
        let took = (laws.echo_is_taken i a s (history_by_steps w steps i) j v).0 came in
        let body = body_of Echo a s v in
        (laws.echo_is_said (group_at w j) (history_by_steps w steps j) a s v).0
        (prefix_Contains (taken_bodies j (history_by_steps w steps i)) (out (group_at w j) (history_by_steps w steps j)) body (stands.authentic i j ci cj)
        ((laws.taken_is_from j (history_by_steps w steps i) body).1 took))
  ]

  module _ (t : MemberStart) (c : ComparingFields) (fair : AreFair w (steps_in (all_around t))) (unforged : AreUnforged w (all_around t))
      (fresh : HasFreshNonce w t) (compares : ComparesNoted w t c) (member : t.member < w.members) (bad : w.faulty t.member ≡ true) where
    first : List Step
    first = steps_in t.before

    first_fair : AreFair w (steps_in t.before)
    first_fair = fair_until w t.before (all_around t) (record { rest = _; is = refl }) fair

    -- ---- the moment of each noted claim

    record Moment (p : ℕ) : Type 0 where
      until : List Happening
      moment : IsPrefix until (all_around t)
      later : List Step
      is : steps_in until ≡ steps_in t.before ++ later
      exact : IsCorrect w p → (taken : ℕ) → slice_get c.claims p ≡ Some (Some taken) → taken ≡ next t.member (history_by_steps w (steps_in until) p)

    none_noted : (p : ℕ) → (IsCorrect w p → (taken : ℕ) → slice_get c.claims p ≡ Some (Some taken) → ⊥) → Moment p
    none_noted p none = record {
      until = t.before;
      moment = record { rest = _; is = refl };
      later = [];
      is = sym (append-nil (steps_in t.before));
      exact = λ correct taken held. absurd (none correct taken held);
    }

    moment_of : (p : ℕ) → Moment p
    moment_of p = go (slice_get c.claims p) refl (w.faulty p) refl (ltb p w.members) refl where
      go : (o : Option (Option ℕ)) → slice_get c.claims p ≡ o → (b : Bool) → w.faulty p ≡ b → (d : Bool) → ltb p w.members ≡ d → Moment p
      go None held b faulty d below = none_noted p (λ correct taken here. let clash : None ≡ Some (Some taken) = sym held ∙ here in absurd cc)
      go (Some None) held b faulty d below = none_noted p (λ correct taken here. let clash : Some None ≡ Some (Some taken) = sym held ∙ here in absurd cc)
      go (Some (Some x)) held true faulty d below = none_noted p (λ correct taken here. true≢false (sym faulty ∙ correct.honest))
      go (Some (Some x)) held false honest false outside = none_noted p (λ correct taken here. true≢false (sym (lt-ltb p w.members correct.member) ∙ outside))
      go (Some (Some x)) held false honest true inside =
          let s = claim_since w t c unforged fresh compares p x (record { member = ltb-true p w.members inside; honest = honest }) held in
          record {
            until = s.until;
            moment = s.moment;
            later = steps_in s.since.rest;
            is = ap steps_in s.since.is ∙ steps_append t.before s.since.rest;
            exact = λ correct taken here. (let same : Some (Some x) ≡ Some (Some taken) = sym held ∙ here in let equal : x ≡ taken = cc in sym equal ∙ s.exact);
          }

    -- what member p never lost until then
    left_of : (p : ℕ) → Left laws.out_grows w (steps_in t.before) p (moment_of p).later
    left_of p =
        let n = moment_of p in
        left laws.out_grows w (steps_in t.before) p n.later (subst (AreFair w) n.is (fair_until w n.until (all_around t) n.moment fair))

    kept : ℕ → ℕ
    kept p = (left_of p).many

    -- all members start again with that alone
    then_steps : List Step
    then_steps = steps_in t.before ++ restarts laws.out_grows w (steps_in t.before) kept w.members

    again : Restarted laws.out_grows w (steps_in t.before) kept w.members
    unfolding kept
    again = restarted laws.out_grows w (steps_in t.before) kept first_fair (λ i correct. (left_of i).among correct) w.members

    then_stands : Stands w (history_by_steps w then_steps)
    unfolding then_steps
    then_stands = stands_by then_steps again.fair

    then_is : (p : ℕ) → IsCorrect w p → history_by_steps w then_steps p ≡ take (left_of p).many (history_by_steps w (steps_in t.before) p)
    unfolding then_steps kept
    then_is p correct = again.here p correct.member

    -- ---- a READY that another correct member took by the start stays

    ready_stays :
        (i r s : ℕ) (v : List ℕ) → IsCorrect w i → IsCorrect w r
        → Contains (taken_bodies r (history_by_steps w (steps_in t.before) i)) (body_of Ready t.member s v)
        → readied (group_at w r) (votes r t.member s (history_by_steps w then_steps r)) ≡ Some v
    ready_stays i r s v ci cr took =
        let h = history_by_steps w (steps_in t.before) r in
        let l = left_of r in
        let body = body_of Ready t.member s v in
        let before = (stands_by (steps_in t.before) first_fair).authentic i r ci cr in
        let short = within laws.nothing_taken laws.taken_grows laws.one_more w r i ci (take l.many h) (steps_in t.before) (l.among cr) in
        let inside = prefix_of_longer (taken_bodies r (history_by_steps w (steps_in t.before) i)) (out (group_at w r) (take l.many h)) (out (group_at w r) h)
        before (out_of_take r l.many h) short in
        let said = prefix_Contains (taken_bodies r (history_by_steps w (steps_in t.before) i)) (out (group_at w r) (take l.many h)) body inside took in
        (laws.ready_is_said (group_at w r) (history_by_steps w then_steps r) t.member s v).0
        (subst (λ (now : List Event). Contains (out (group_at w r) now) body) (sym (then_is r cr)) said)

    -- ---- the members that claimed no more

    held : ℕ → Bool
    held p = is_within c.sent (get_or c.claims p None)

    quorum : ℕ → Bool
    quorum p = eqb p t.member || held p

    not_itself : held t.member ≡ false
    unfolding held
    not_itself = go (get_or c.claims t.member None) (slice_get-get_or c.claims t.member None (let long = compares.one_for_each in let below = member in omega arith)) where
      go : (o : Option ℕ) → slice_get c.claims t.member ≡ Some o → is_within c.sent o ≡ false
      go None at = refl
      go (Some x) at = absurd ((compares.noted t.member x at).other refl)

    are_many : standing_of c ≡ Free → w.members + w.faults < 2 * size w.members quorum
    unfolding quorum held
    are_many free =
        let enough = ltb-true (c.members + c.faults) (2 * count_within c) (free_is (ltb c.faults (count_beyond c)) (ltb (c.members + c.faults) (2 * count_within c)) free) in
        let sized = count_is_size (is_within c.sent) c.claims None w.members compares.one_for_each in
        let itself = size_with w.members t.member (λ p. is_within c.sent (get_or c.claims p None)) member not_itself in
        let n = compares.members in
        let f = compares.faults in
        omega arith

    claim_of : (p : ℕ) → p < w.members → held p ≡ true → (taken : ℕ) × (slice_get c.claims p ≡ Some (Some taken)) × (taken ≤ c.sent)
    unfolding held
    claim_of p below is = go (get_or c.claims p None) (slice_get-get_or c.claims p None (let long = compares.one_for_each in omega arith)) is where
      go : (o : Option ℕ) → slice_get c.claims p ≡ Some o → is_within c.sent o ≡ true → (taken : ℕ) × (slice_get c.claims p ≡ Some (Some taken)) × (taken ≤ c.sent)
      go None at is = absurd (true≢false (sym is))
      go (Some x) at is = (x, at, leb-true x c.sent is)

    -- ---- one of them echoed the value, so it had taken its SEND

    had_taken :
        (p s : ℕ) (v : List ℕ) → IsCorrect w p → held p ≡ true → echoed (votes p t.member s (history_by_steps w then_steps p)) ≡ Some v
        → IsTakenAmong w (all_around t) t.member c.sent (body_of Send t.member s v)
    had_taken p s v correct is said =
        let n = moment_of p in
        let l = left_of p in
        let claim = claim_of p correct.member is in
        let body = body_of Send t.member s v in
        let other : t.member ≢ p = λ same. true≢false (sym bad ∙ ap w.faulty same ∙ correct.honest) in
        let came = laws.send_came (votes p t.member s (history_by_steps w then_steps p)) v said in
        let took = (laws.send_is_taken p t.member s (history_by_steps w then_steps p) v other).0 came in
        let began : Contains (take l.many (history_by_steps w (steps_in t.before) p)) (From t.member body) =
        subst (λ (now : List Event). Contains now (From t.member body)) (then_is p correct) took in
        let now : Contains (history_by_steps w (steps_in n.until) p) (From t.member body) =
        subst (λ (steps : List Step). Contains (history_by_steps w steps p) (From t.member body)) (sym n.is)
        (prefix_Contains (take l.many (history_by_steps w (steps_in t.before) p)) (history_by_steps w (steps_in t.before ++ n.later) p) (From t.member body) l.begins began) in
        let bodies = taken_bodies t.member (history_by_steps w (steps_in n.until) p) in
        let among : Contains bodies body = (laws.taken_is_from t.member (history_by_steps w (steps_in n.until) p) body).1 now in
        let exact = n.exact correct claim.0 claim.1 in
        let fewer = claim.2 in
        let short : length bodies ≤ c.sent = omega arith in
        record {
          until = n.until;
          moment = n.moment;
          member = p;
          correct = correct;
          taken = subst (λ (l : List BodyFields). Contains l body) (sym (take_all c.sent bodies short)) among;
        }

    pub released :
        (i s : ℕ) (v : List ℕ) → standing_of c ≡ Free → IsCorrect w i
        → delivered_at (group_at w i) (history_by_steps w (steps_in t.before) i) t.member s ≡ Some v
        → IsTakenAmong w (all_around t) t.member c.sent (body_of Send t.member s v)
    unfolding quorum
    released i s v free ci is =
        let ready = another_is_ready (history_by_steps w (steps_in t.before) i) i t.member s v member bad is in
        let has = then_stands.ruled ready.0 t.member s v ready.1 (ready_stays i ready.0 s v ci ready.1 ready.2) in
        let k = has.holder in
        let echoes = echo_set (group_at w k) (votes k t.member s (history_by_steps w then_steps k)) v in
        let shared = laws.share w.members w.faults echoes (λ p. eqb p t.member || held p) has.quorum (are_many free) in
        let most = few.few in
        let found = laws.another w.members (λ p. echoes p && (eqb p t.member || held p)) w.faulty (omega arith) in
        let p = found.0 in
        let cp : IsCorrect w p = record { member = found.1; honest = found.3 } in
        let both = and_parts (echoes p) (eqb p t.member || held p) found.2 in
        let other : eqb p t.member ≡ false = itself_is_not p found.3 in
        let heard = (laws.in_echo_set (group_at w k) (votes k t.member s (history_by_steps w then_steps k)) v p).0 both.0 in
        had_taken p s v cp (or_other (eqb p t.member) (held p) both.1 other)
        (heard_echo then_steps k p t.member s v then_stands has.correct cp heard) where
          itself_is_not : (p : ℕ) → w.faulty p ≡ false → eqb p t.member ≡ false
          itself_is_not p honest = go (eqb p t.member) refl where
            go : (b : Bool) → eqb p t.member ≡ b → b ≡ false
            go true same = absurd (true≢false (sym bad ∙ ap w.faulty (sym (eqb-true p t.member same)) ∙ honest))
            go false same = refl

pub released_has_delivered : Laws → ReleasedHasDelivered
released_has_delivered laws w t c i seq v few fair unforged fresh compares member bad free correct is =
    released laws w few t c fair unforged fresh compares member bad i seq v free correct is

pub delivered_was_asked : RestartIsNoLie → GenuineStands → Integrity → DeliveredWasAsked
delivered_was_asked no_lie stands integrity w steps i m seq v few fair ci cm is =
    let by = no_lie w steps fair in
    let stood : Stands w (history_by_steps w steps) = subst (Stands w) (λ k i. by.2 i k) (stands w by.0 few by.1) in
    integrity w (history_by_steps w steps) i m seq v stood few ci cm is

pub first_taken_is_first_sent : FirstTakenIsFirstSent
first_taken_is_first_sent w happenings m many body sent begins among =
    let taken = taken_bodies m (history_by_steps w (steps_in among.until) among.member) in
    let begun : IsPrefix taken sent = begins among.member among.until among.correct among.moment in
    let shorter = prefix_is_shorter taken sent begun in
    prefix_Contains (take many taken) (take many sent) body
    (prefix_of_longer (take many taken) (take many sent) sent
    (prefix_trans (take many taken) taken sent (take_is_prefix many taken) begun) (take_is_prefix many sent)
    (omega (arith, length-take many taken, length-take many sent, shorter)))
    among.taken
