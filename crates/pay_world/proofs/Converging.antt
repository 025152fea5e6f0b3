-- Where each correct member took all that the others sent, they know the same.
use Rattle.std.proofs.Common.{◌≡◌, ◌≢◌, ◌⊎◌, inl, inr, ℕ, ◌+◌, ◌*◌, ◌<◌, ◌≤◌, Bool, true, not, ◌&&◌, List, [], length, slice_get, Option, None, Some, Contains, refl, sym, ap, ◌∙◌, subst, arith, append-nil, true≢false}
use Rattle.std.proofs.lemmas.Bool.{cases_eq, and_parts, not-true}
use Rattle.pay_frame.specs.Frame.{BodyFields}
use Rattle.pay_frame.specs.declared.body.Kind.TheVariants.{Send, Echo, Ready}
use Rattle.pay_echo.specs.Broadcast.{size, echoed, echo_of, echo_set, other_ready_set, readied, ready_of, ready_set, delivered}
use Rattle.pay_channel.specs.History.{Event, From, body_of, out, seqs, delivered_at, list_of}
use Rattle.pay_channel.specs.Asked.{asked_values}
use Rattle.pay_channel.specs.Taken.{taken_bodies}
use Rattle.pay_channel.specs.Prefix.{IsPrefix}
use Rattle.pay_world.specs.Setting.{Setting, group_at, IsCorrect, HasFewFaulty}
use Rattle.pay_world.specs.Stands.{votes_at, HasQuorum, Stands}
use Rattle.pay_world.specs.Convergence.{AllTaken}
use Rattle.pay_world.specs.Below.{Below}
use Rattle.pay_world.proofs.Lists.{none_some, some_same, there, prefix_whole}
use Rattle.pay_world.proofs.Heard.{heard_echo, heard_ready, heard_send}
use Rattle.pay_world.proofs.Agreeing.{one_value, delivered_has_quorum, integrity}

module _ (below : Below) (w : Setting) (histories : ℕ → List Event) (stands : Stands w histories) (few : HasFewFaulty w) (all : AllTaken w histories) where
  -- ---- what was said is heard

  took :
      (i j : ℕ) (body : BodyFields) → IsCorrect w i → IsCorrect w j → i ≢ j
      → Contains (out (group_at w j) (histories j)) body → Contains (histories i) (From j body)
  took i j body ci cj differ at =
      let same = prefix_whole (taken_bodies j (histories i)) (out (group_at w j) (histories j)) (stands.authentic i j ci cj) (all.each i j ci cj differ) in
      (below.channel.taken_is_from j (histories i) body).0 (subst (λ l. Contains l body) (sym same) at)

  echo_reaches :
      (i j a s : ℕ) (v : List ℕ) → IsCorrect w i → IsCorrect w j
      → echoed (votes_at histories j a s) ≡ Some v → echo_of (group_at w i) (votes_at histories i a s) j ≡ Some v
  echo_reaches i j a s v ci cj said = go (cases_eq j i) where
    go : ((j ≡ i) ⊎ (j ≢ i)) → echo_of (group_at w i) (votes_at histories i a s) j ≡ Some v
    go (inl same) =
        ap (echo_of (group_at w i) (votes_at histories i a s)) same
        ∙ below.one.own_echo (group_at w i) (votes_at histories i a s)
        ∙ sym (ap (λ k. echoed (votes_at histories k a s)) same)
        ∙ said
    go (inr differs) =
        let sent = (below.channel.echo_is_said (group_at w j) (histories j) a s v).1 said in
        let came = (below.channel.echo_is_taken i a s (histories i) j v).1 (took i j (body_of Echo a s v) ci cj (λ same. differs (sym same)) sent) in
        let heard = there (echo_of (group_at w i) (votes_at histories i a s) j) (below.one.echo_counts (group_at w i) (votes_at histories i a s) j v differs came) in
        let same = some_same heard.0 v (sym (heard_echo below w histories i j a s heard.0 (stands.authentic i j ci cj) heard.1) ∙ said) in
        heard.1 ∙ ap Some same

  ready_reaches :
      (i j a s : ℕ) (v : List ℕ) → IsCorrect w i → IsCorrect w j
      → readied (group_at w j) (votes_at histories j a s) ≡ Some v → ready_of (group_at w i) (votes_at histories i a s) j ≡ Some v
  ready_reaches i j a s v ci cj said = go (cases_eq j i) where
    go : ((j ≡ i) ⊎ (j ≢ i)) → ready_of (group_at w i) (votes_at histories i a s) j ≡ Some v
    go (inl same) =
        ap (ready_of (group_at w i) (votes_at histories i a s)) same
        ∙ below.one.own_ready (group_at w i) (votes_at histories i a s)
        ∙ sym (ap (λ k. readied (group_at w k) (votes_at histories k a s)) same)
        ∙ said
    go (inr differs) =
        let sent = (below.channel.ready_is_said (group_at w j) (histories j) a s v).1 said in
        let came = (below.channel.ready_is_taken i a s (histories i) j v).1 (took i j (body_of Ready a s v) ci cj (λ same. differs (sym same)) sent) in
        let heard = there (ready_of (group_at w i) (votes_at histories i a s) j) (below.one.ready_counts (group_at w i) (votes_at histories i a s) j v differs came) in
        let same = some_same heard.0 v (sym (heard_ready below w histories i j a s heard.0 (stands.authentic i j ci cj) heard.1) ∙ said) in
        heard.1 ∙ ap Some same

  -- what a correct owner was asked for, each correct member echoes
  ask_reaches :
      (i a s : ℕ) (v : List ℕ) → IsCorrect w i → IsCorrect w a
      → slice_get (asked_values (histories a)) s ≡ Some v → echoed (votes_at histories i a s) ≡ Some v
  ask_reaches i a s v ci ca is = go (cases_eq a i) where
    go : ((a ≡ i) ⊎ (a ≢ i)) → echoed (votes_at histories i a s) ≡ Some v
    go (inl same) =
        sym (ap (λ k. echoed (votes_at histories k a s)) same)
        ∙ below.channel.own_echo_is_ask (group_at w a) (histories a) s (stands.proper a ca)
        ∙ is
    go (inr differs) =
        let sent = (below.channel.sent_is_asked (group_at w a) (histories a) a s v).1 (refl, is) in
        let came = (below.channel.send_is_taken i a s (histories i) v differs).1 (took i a (body_of Send a s v) ci ca (λ same. differs (sym same)) sent) in
        let heard = there (echoed (votes_at histories i a s)) (below.one.send_is_echoed (votes_at histories i a s) v came) in
        let same = some_same heard.0 v (sym (heard_send below w histories i a s heard.0 (stands.authentic i a ci ca) (stands.proper a ca) heard.1) ∙ is) in
        heard.1 ∙ ap Some same

  -- ---- a set with all correct members has all but f

  all_correct : (set : ℕ → Bool) → ((p : ℕ) → IsCorrect w p → set p ≡ true) → w.members ≤ size w.members set + w.faults
  all_correct set has =
      let most : size w.members w.faulty ≤ w.faults = few.few in
      let rest = below.sets.size_of_others w.members w.faulty in
      let part = below.sets.part_is_smaller w.members (λ p. not (w.faulty p)) set
      (λ p member honest. has p (record { member = member; honest = not-true (w.faulty p) honest })) in
      omega arith

  -- ---- asked for, so delivered

  all_echo_ready :
      (i a s : ℕ) (v : List ℕ) → IsCorrect w i
      → ((p : ℕ) → IsCorrect w p → echoed (votes_at histories p a s) ≡ Some v)
      → readied (group_at w i) (votes_at histories i a s) ≡ Some v
  all_echo_ready i a s v ci echo =
      let votes = votes_at histories i a s in
      let set = echo_set (group_at w i) votes v in
      let large = all_correct set (λ p cp. (below.one.in_echo_set (group_at w i) votes v p).1 (echo_reaches i p a s v ci cp (echo p cp))) in
      let quorum = below.sets.rest_is_quorum w.members w.faults (size w.members set) few.many large in
      let ready = there (readied (group_at w i) votes) (below.one.quorum_makes_ready (group_at w i) votes v quorum) in
      let has : HasQuorum w histories a s v = record { holder = i; correct = ci; quorum = quorum } in
      ready.1 ∙ ap Some (one_value below w histories stands few a s ready.0 v (stands.ruled i a s ready.0 ci ready.1) has)

  all_ready_delivered :
      (i a s : ℕ) (v : List ℕ) → IsCorrect w i
      → ((p : ℕ) → IsCorrect w p → readied (group_at w p) (votes_at histories p a s) ≡ Some v)
      → delivered_at (group_at w i) (histories i) a s ≡ Some v
  all_ready_delivered i a s v ci ready =
      let votes = votes_at histories i a s in
      let set = ready_set (group_at w i) votes v in
      let large = all_correct set (λ p cp. (below.one.in_ready_set (group_at w i) votes v p).1 (ready_reaches i p a s v ci cp (ready p cp))) in
      let many : 3 * w.faults < w.members = few.many in
      let known = below.one.readys_deliver (group_at w i) votes v (omega arith) in
      let value = there (delivered (group_at w i) votes) known in
      let is = below.channel.delivered_is (group_at w i) (histories i) a s ∙ value.1 in
      is ∙ ap Some (one_value below w histories stands few a s value.0 v (delivered_has_quorum below w histories stands few i a s value.0 ci is) (stands.ruled i a s v ci (ready i ci)))

  pub asks_are_delivered :
      (i a s : ℕ) (v : List ℕ) → IsCorrect w i → IsCorrect w a
      → slice_get (asked_values (histories a)) s ≡ Some v → delivered_at (group_at w i) (histories i) a s ≡ Some v
  asks_are_delivered i a s v ci ca is =
      all_ready_delivered i a s v ci (λ p cp. all_echo_ready p a s v cp (λ q cq. ask_reaches q a s v cq ca is))

  -- ---- delivered at one, so at all

  -- a member that isn't READY would be by those that are
  amplified :
      (i k a s : ℕ) (v : List ℕ) → IsCorrect w i → IsCorrect w k
      → delivered_at (group_at w i) (histories i) a s ≡ Some v → readied (group_at w k) (votes_at histories k a s) ≡ None → ⊥
  amplified i k a s v ci ck is unready =
      let votes = votes_at histories i a s in
      let set = ready_set (group_at w i) votes v in
      let theirs = other_ready_set (group_at w k) (votes_at histories k a s) v in
      let many = below.one.why_delivered (group_at w i) votes v (sym (below.channel.delivered_is (group_at w i) (histories i) a s) ∙ is) in
      let most : size w.members w.faulty ≤ w.faults = few.few in
      let remain = below.sets.more_remain w.members w.faults set w.faulty many most in
      let part = below.sets.part_is_smaller w.members (λ p. set p && not (w.faulty p)) theirs (λ p member both. reaches p member (and_parts (set p) (not (w.faulty p)) both)) in
      below.one.amplification_makes_ready (group_at w k) (votes_at histories k a s) v (omega arith) unready where
        reaches : (p : ℕ) → p < w.members → (ready_set (group_at w i) (votes_at histories i a s) v p ≡ true) × (not (w.faulty p) ≡ true) → other_ready_set (group_at w k) (votes_at histories k a s) v p ≡ true
        reaches p member (ready, honest) =
            let cp : IsCorrect w p = record { member = member; honest = not-true (w.faulty p) honest } in
            let heard = (below.one.in_ready_set (group_at w i) (votes_at histories i a s) v p).0 ready in
            let said = heard_ready below w histories i p a s v (stands.authentic i p ci cp) heard in
            let other : p ≢ k = λ same. none_some v (sym unready ∙ sym (ap (λ q. readied (group_at w q) (votes_at histories q a s)) same) ∙ said) in
            (below.one.in_other_ready_set (group_at w k) (votes_at histories k a s) v p).1 (other, ready_reaches k p a s v ck cp said)

  delivered_ready :
      (i k a s : ℕ) (v : List ℕ) → IsCorrect w i → IsCorrect w k
      → delivered_at (group_at w i) (histories i) a s ≡ Some v → readied (group_at w k) (votes_at histories k a s) ≡ Some v
  delivered_ready i k a s v ci ck is =
      let ready = there (readied (group_at w k) (votes_at histories k a s)) (amplified i k a s v ci ck is) in
      ready.1
      ∙ ap Some
      (one_value below w histories stands few a s ready.0 v (stands.ruled k a s ready.0 ck ready.1) (delivered_has_quorum below w histories stands few i a s v ci is))

  -- ---- and at whoever took all of the correct members

  pub listener :
      (i j a s : ℕ) (v : List ℕ) → IsCorrect w j → w.faulty i ≡ true
      → ((k : ℕ) → IsCorrect w k → taken_bodies k (histories i) ≡ out (group_at w k) (histories k))
      → delivered_at (group_at w j) (histories j) a s ≡ Some v → delivered_at (group_at w i) (histories i) a s ≡ Some v
  listener i j a s v cj bad took_all is =
      let votes = votes_at histories i a s in
      let set = ready_set (group_at w i) votes v in
      let large = all_correct set (λ p cp. (below.one.in_ready_set (group_at w i) votes v p).1 (reaches p cp)) in
      let many : 3 * w.faults < w.members = few.many in
      let known = below.one.readys_deliver (group_at w i) votes v (omega arith) in
      let value = there (delivered (group_at w i) votes) known in
      let why = below.one.why_delivered (group_at w i) votes value.0 value.1 in
      let most : size w.members w.faulty ≤ w.faults = few.few in
      let found = below.sets.larger_has_another w.members (ready_set (group_at w i) votes value.0) w.faulty (omega arith) in
      let p = found.0 in
      let cp : IsCorrect w p = record { member = found.1; honest = found.3 } in
      let heard = (below.one.in_ready_set (group_at w i) votes value.0 p).0 found.2 in
      let said = heard_ready below w histories i p a s value.0 (hears p cp) heard in
      below.channel.delivered_is (group_at w i) (histories i) a s ∙ value.1
      ∙ ap Some (some_same value.0 v (sym said ∙ delivered_ready j p a s v cj cp is)) where
        hears : (p : ℕ) → IsCorrect w p → IsPrefix (taken_bodies p (histories i)) (out (group_at w p) (histories p))
        hears p cp = subst (λ l. IsPrefix (taken_bodies p (histories i)) l) (took_all p cp) (record { rest = []; is = sym (append-nil (taken_bodies p (histories i))) })

        reaches : (p : ℕ) → IsCorrect w p → ready_of (group_at w i) (votes_at histories i a s) p ≡ Some v
        reaches p cp =
            let differs : p ≢ i = λ same. true≢false (sym bad ∙ ap w.faulty (sym same) ∙ cp.honest) in
            let ready = delivered_ready j p a s v cj cp is in
            let sent = (below.channel.ready_is_said (group_at w p) (histories p) a s v).1 ready in
            let taken = (below.channel.taken_is_from p (histories i) (body_of Ready a s v)).0 (subst (λ l. Contains l (body_of Ready a s v)) (sym (took_all p cp)) sent) in
            let came = (below.channel.ready_is_taken i a s (histories i) p v).1 taken in
            let heard = there (ready_of (group_at w i) (votes_at histories i a s) p) (below.one.ready_counts (group_at w i) (votes_at histories i a s) p v differs came) in
            let same = some_same heard.0 v (sym (heard_ready below w histories i p a s heard.0 (hears p cp) heard.1) ∙ ready) in
            heard.1 ∙ ap Some same

  pub totality :
      (i j a s : ℕ) (v : List ℕ) → IsCorrect w i → IsCorrect w j
      → delivered_at (group_at w i) (histories i) a s ≡ Some v → delivered_at (group_at w j) (histories j) a s ≡ Some v
  totality i j a s v ci cj is = all_ready_delivered j a s v cj (λ p cp. delivered_ready i p a s v ci cp is)

  pub convergence :
      (i j a s : ℕ) → IsCorrect w i → IsCorrect w j
      → delivered_at (group_at w i) (histories i) a s ≡ delivered_at (group_at w j) (histories j) a s
  convergence i j a s ci cj = go (delivered_at (group_at w i) (histories i) a s) refl where
    go :
        (o : Option (List ℕ)) → delivered_at (group_at w i) (histories i) a s ≡ o
        → delivered_at (group_at w i) (histories i) a s ≡ delivered_at (group_at w j) (histories j) a s
    go (Some v) is = is ∙ sym (totality i j a s v ci cj is)
    go None none = none ∙ sym (nothing (delivered_at (group_at w j) (histories j) a s) refl) where
      nothing :
          (o : Option (List ℕ)) → delivered_at (group_at w j) (histories j) a s ≡ o
          → delivered_at (group_at w j) (histories j) a s ≡ None
      nothing None is = is
      nothing (Some u) is = absurd (none_some u (sym none ∙ totality j i a s u cj ci is))

  pub lists_converge : (i j : ℕ) → IsCorrect w i → IsCorrect w j → list_of (group_at w i) (histories i) ≡ list_of (group_at w j) (histories j)
  lists_converge i j ci cj =
      λ t a. below.channel.lists_alike (group_at w i) (group_at w j) (histories i) (histories j) a refl (λ s. convergence i j a s ci cj) t

  -- each correct owner's list is all that it was asked for
  pub list_is_all :
      (i a : ℕ) → IsCorrect w i → IsCorrect w a → length (asked_values (histories a)) ≤ seqs
      → list_of (group_at w i) (histories i) a ≡ asked_values (histories a)
  list_is_all i a ci ca short =
      below.channel.list_is_values (group_at w i) (histories i) a (asked_values (histories a)) ca.member short (λ s. go s (slice_get (asked_values (histories a)) s) refl) where
        go :
            (s : ℕ) (o : Option (List ℕ)) → slice_get (asked_values (histories a)) s ≡ o
            → delivered_at (group_at w i) (histories i) a s ≡ slice_get (asked_values (histories a)) s
        go s (Some v) is = asks_are_delivered i a s v ci ca is ∙ sym is
        go s None none = nothing (delivered_at (group_at w i) (histories i) a s) refl ∙ sym none where
          nothing :
              (o : Option (List ℕ)) → delivered_at (group_at w i) (histories i) a s ≡ o
              → delivered_at (group_at w i) (histories i) a s ≡ None
          nothing None is = is
          nothing (Some u) is = absurd (none_some u (sym none ∙ integrity below w histories stands few i a s u ci ca is))
