-- Authenticity and the rule of READY, at first and by one event more.
use Rattle.std.proofs.Common.{◌≡◌, ◌≢◌, ◌⊎◌, inl, inr, ⊎_elim, ℕ, ◌+◌, ◌*◌, ◌<◌, ◌≤◌, eqb, List, [], ◌∷◌, ◌++◌, Option, None, Some, option_to_list, All, refl, sym, ap, ◌∙◌, subst, arith, append-nil}
use Rattle.std.proofs.lemmas.Bool.{cases_eq, eqb-true}
use Rattle.std.proofs.lemmas.Option.{cond_some}
use Rattle.std.proofs.lemmas.List.Elements.{All-nil, All-push}
use Rattle.pay_frame.specs.Frame.{BodyFields}
use Rattle.pay_echo.specs.Broadcast.{Vote, size, echo_set, other_ready_set, readied}
use Rattle.pay_channel.specs.Prefix.{IsPrefix}
use Rattle.pay_channel.specs.History.{Event, Ask, From, IsEvent, votes, out}
use Rattle.pay_channel.specs.Taken.{taken_bodies, body_from}
use Rattle.pay_world.specs.Setting.{Setting, group_at, IsCorrect, HasFewFaulty}
use Rattle.pay_world.specs.Stands.{votes_at, HasQuorum, Stands, IsLonger, IsAllowed, Grow}
use Rattle.pay_world.specs.Below.{Below}
use Rattle.pay_world.proofs.Lists.{none_some, prefix_same, prefix_trans, prefix_push}
use Rattle.pay_world.proofs.Heard.{Hears, heard_ready}

-- a body that comes from j is the event's
came_from : (j : ℕ) (e : Event) (body : BodyFields) → body_from j e ≡ Some body → e ≡ From j body
came_from j (Ask v) body is = absurd (none_some body is)
came_from j (From p c) body is =
    let found = cond_some (eqb p j) c body is in
    let same = eqb-true p j found.0 in
    λ i. From (same i) (found.1 i)

module _ (below : Below) (w : Setting) where
  pub stands_at_first : Stands w (λ i. [])
  stands_at_first = record {
    proper = λ i correct. All-nil (IsEvent (group_at w i));
    authentic = λ i j ci cj.
        record {
          rest = out (group_at w j) [];
          is = ap (λ l. l ++ out (group_at w j) []) (sym (below.channel.nothing_taken_at_first j));
        };
    ruled = λ i a s v correct ready.
        absurd (none_some v
        (sym (below.one.not_ready_at_first (group_at w i))
        ∙ sym (ap (readied (group_at w i)) (below.channel.no_votes_at_first i a s))
        ∙ ready));
  }

  -- a quorum stays, whatever comes
  pub quorum_stays :
      (old new : ℕ → List Event) (a s : ℕ) (v : List ℕ) → Grow old new → HasQuorum w old a s v → HasQuorum w new a s v
  quorum_stays old new a s v grow has =
      let k = has.holder in
      let longer = grow.each k in
      let later = below.channel.votes_grow k a s (old k) longer.rest in
      let votes_are : votes_at new k a s ≡ votes_at old k a s ++ later.rest = ap (votes k a s) longer.is ∙ later.is in
      let grown = below.one.echo_set_grows (group_at w k) (votes_at old k a s) later.rest v in
      let most = has.quorum in
      let Large : List Vote → Type 0 = λ l. w.members + w.faults < 2 * size w.members (echo_set (group_at w k) l v) in
      let large : Large (votes_at old k a s ++ later.rest) = omega arith in
      record { holder = k; correct = has.correct; quorum = subst Large (sym votes_are) large }

  -- what is sent stays, and more comes after it
  pub out_longer : (old new : ℕ → List Event) (j : ℕ) → Grow old new → IsPrefix (out (group_at w j) (old j)) (out (group_at w j) (new j))
  out_longer old new j grow =
      let longer = grow.each j in
      let later = below.channel.out_grows (group_at w j) (old j) longer.rest in
      record { rest = later.rest; is = ap (out (group_at w j)) longer.is ∙ later.is }

  module _ (old new : ℕ → List Event) (k : ℕ) (e : Event) (longer : IsLonger old new k e) where
    pub one_more_grows : Grow old new
    one_more_grows = record { each = λ i. go i (cases_eq i k) } where
      go : (i : ℕ) → ((i ≡ k) ⊎ (i ≢ k)) → IsPrefix (old i) (new i)
      go i (inl same) = record { rest = e ∷ []; is = ap new same ∙ longer.here ∙ sym (ap (λ j. old j ++ e ∷ []) same) }
      go i (inr differs) = prefix_same (old i) (new i) (sym (longer.others i differs))

    module _ (few : HasFewFaulty w) (allowed : IsAllowed w old k e) (stands : Stands w old) where
      proper_more : (i : ℕ) → IsCorrect w i → All (IsEvent (group_at w i)) (new i)
      proper_more i correct = go (cases_eq i k) where
        go : ((i ≡ k) ⊎ (i ≢ k)) → All (IsEvent (group_at w i)) (new i)
        go (inl same) =
            let P : ℕ → Type 0 = λ j. IsCorrect w j → All (IsEvent (group_at w j)) (new j) in
            let here : P k = λ c.
            subst (λ l. All (IsEvent (group_at w k)) l) (sym longer.here)
            (All-push (IsEvent (group_at w k)) (old k) e (stands.proper k c) (allowed.proper c)) in
            subst P (sym same) here correct
        go (inr differs) = subst (λ l. All (IsEvent (group_at w i)) l) (sym (longer.others i differs)) (stands.proper i correct)

      -- k took nothing from j, or the next of all that j sent
      taken_more : (j : ℕ) → IsCorrect w k → IsCorrect w j → IsPrefix (taken_bodies j (old k ++ e ∷ [])) (out (group_at w j) (old j))
      taken_more j ck cj = go (body_from j e) refl where
        go : (o : Option BodyFields) → body_from j e ≡ o → IsPrefix (taken_bodies j (old k ++ e ∷ [])) (out (group_at w j) (old j))
        go o is =
            let more : taken_bodies j (old k ++ e ∷ []) ≡ taken_bodies j (old k) ++ option_to_list o =
            below.channel.taken_by_one_more j (old k) e ∙ ap (λ x. taken_bodies j (old k) ++ option_to_list x) is in
            subst (λ l. IsPrefix l (out (group_at w j) (old j))) (sym more) (next o is) where
              next : (x : Option BodyFields) → body_from j e ≡ x → IsPrefix (taken_bodies j (old k) ++ option_to_list x) (out (group_at w j) (old j))
              next None nothing = subst (λ l. IsPrefix l (out (group_at w j) (old j))) (sym (append-nil (taken_bodies j (old k)))) (stands.authentic k j ck cj)
              next (Some body) some =
                  prefix_push (taken_bodies j (old k)) (out (group_at w j) (old j)) body (stands.authentic k j ck cj)
                  (allowed.genuine j body ck cj (came_from j e body some))

      authentic_more : (i j : ℕ) → IsCorrect w i → IsCorrect w j → Hears w new i j
      authentic_more i j ci cj =
          prefix_trans (taken_bodies j (new i)) (out (group_at w j) (old j)) (out (group_at w j) (new j))
          (go (cases_eq i k)) (out_longer old new j one_more_grows) where
            go : ((i ≡ k) ⊎ (i ≢ k)) → IsPrefix (taken_bodies j (new i)) (out (group_at w j) (old j))
            go (inl same) =
                subst (λ l. IsPrefix (taken_bodies j l) (out (group_at w j) (old j))) (sym (ap new same ∙ longer.here))
                (taken_more j (subst (IsCorrect w) same ci) cj)
            go (inr differs) =
                subst (λ l. IsPrefix (taken_bodies j l) (out (group_at w j) (old j))) (sym (longer.others i differs)) (stands.authentic i j ci cj)

      -- nothing happened to i: its READY is an earlier one
      earlier :
          (i a s : ℕ) (v : List ℕ) → IsCorrect w i → i ≢ k
          → readied (group_at w i) (votes_at new i a s) ≡ Some v → HasQuorum w new a s v
      earlier i a s v ci differs ready =
          quorum_stays old new a s v one_more_grows
          (stands.ruled i a s v ci (sym (ap (λ l. readied (group_at w i) (votes i a s l)) (longer.others i differs)) ∙ ready))

      ruled_more :
          (i a s : ℕ) (v : List ℕ) → IsCorrect w i
          → readied (group_at w i) (votes_at new i a s) ≡ Some v → HasQuorum w new a s v
      ruled_more i a s v ci ready = go (cases_eq i k) where
        go : ((i ≡ k) ⊎ (i ≢ k)) → HasQuorum w new a s v
        go (inr differs) = earlier i a s v ci differs ready
        go (inl same) =
            ⊎_elim
            (λ quorum. record { holder = i; correct = ci; quorum = quorum })
            (λ amplified.
            let most : size w.members w.faulty ≤ w.faults = few.few in
            let found = below.sets.larger_has_another w.members (other_ready_set (group_at w i) (votes_at new i a s) v) w.faulty (omega arith) in
            let p = found.0 in
            let cp : IsCorrect w p = record { member = found.1; honest = found.3 } in
            let theirs = (below.one.in_other_ready_set (group_at w i) (votes_at new i a s) v p).0 found.2 in
            earlier p a s v cp (λ here. theirs.0 (here ∙ sym same))
            (heard_ready below w new i p a s v (authentic_more i p ci cp) theirs.1))
            (below.one.why_ready (group_at w i) (votes_at new i a s) v ready)

      pub stands_by_one_more : Stands w new
      stands_by_one_more = record { proper = proper_more; authentic = authentic_more; ruled = ruled_more }
