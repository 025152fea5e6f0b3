-- What stands in the sent list about one broadcast: one ECHO exactly where its value is echoed, and one
-- READY exactly where its value is readied.
use Rattle.std.proofs.Common.{◌≡◌, ℕ, Bool, true, false, ◌&&◌, eqb, List, [], ◌∷◌, ◌++◌, map, filter, Option, None, Some, option_to_list, Contains, refl, sym, ap, ap₂, ◌∙◌, subst, append-nil, eqb-true, eq-eqb}
use Rattle.std.proofs.lemmas.Bool.{cond-true, cond-false, cases_Bool, and_parts, and_from}
use Rattle.std.proofs.lemmas.List.Elements.{filter-append}
use Rattle.pay_frame.specs.declared.body.Kind.{Kind}
use Rattle.pay_frame.specs.declared.body.Kind.TheVariants.{Send, Echo, Ready}
use Rattle.pay_frame.specs.Frame.{BodyFields}
use Rattle.pay_echo.specs.Broadcast.{Group, echoed, readied}
use Rattle.pay_echo.specs.Laws.{EchoedStays, ReadiedStays, NotReadyAtFirst}
use Rattle.pay_channel.specs.History.{Event, Ask, From, asks, owner_of, seq_of, is_about, votes_in, votes, body_of, newly, send_of, says, out}
use Rattle.pay_channel.specs.SentLaws.{is_echo, is_ready_kind, is_said, EchoInOut, ReadyInOut, EchoIsSaid, ReadyIsSaid}
use Rattle.pay_channel.proofs.Lists.{either, by_push, Contains-filter, filter-Contains, option-Contains, Contains-option}
use Rattle.pay_channel.proofs.Project.{votes-push, out-push, votes_in-other}

-- bodies of another kind, or about another broadcast
pub newly-apart : (t : BodyFields → Bool) (kind : Kind) (a s : ℕ) (o n : Option (List ℕ)) → ((v : List ℕ) → t (body_of kind a s v) ≡ false) → filter t (newly kind a s o n) ≡ []
newly-apart t kind a s None None no_body = refl
newly-apart t kind a s None (Some v) no_body = cond-false (t (body_of kind a s v)) (body_of kind a s v ∷ []) [] (no_body v)
newly-apart t kind a s (Some w) n no_body = refl

newly-kept : (t : BodyFields → Bool) (kind : Kind) (a s : ℕ) (o n : Option (List ℕ)) → ((v : List ℕ) → t (body_of kind a s v) ≡ true) → filter t (newly kind a s o n) ≡ newly kind a s o n
newly-kept t kind a s None None body = refl
newly-kept t kind a s None (Some v) body = cond-true (t (body_of kind a s v)) (body_of kind a s v ∷ []) [] (body v)
newly-kept t kind a s (Some w) n body = refl

send-apart : (t : BodyFields → Bool) (own k : ℕ) (e : Event) → ((v : List ℕ) → t (body_of Send own k v) ≡ false) → filter t (send_of own k e) ≡ []
send-apart t own k (Ask v) no_body = cond-false (t (body_of Send own k v)) (body_of Send own k v ∷ []) [] (no_body v)
send-apart t own k (From p body) no_body = refl

-- what was there, and what comes, are what is there now
joined : (kind : Kind) (a s : ℕ) (o n : Option (List ℕ)) → ((w : List ℕ) → o ≡ Some w → n ≡ Some w) → map (body_of kind a s) (option_to_list o) ++ newly kind a s o n ≡ map (body_of kind a s) (option_to_list n)
joined kind a s None None stays = refl
joined kind a s None (Some v) stays = refl
joined kind a s (Some w) n stays = ap (λ m. map (body_of kind a s) (option_to_list m)) (sym (stays w refl))

same_place : (a b s t : ℕ) → (eqb a b && eqb s t) ≡ true → (a ≡ b) × (s ≡ t)
same_place a b s t e = let both = and_parts (eqb a b) (eqb s t) e in (eqb-true a b both.0, eqb-true s t both.1)

module _ (stays : EchoedStays) (g : Group) (a s : ℕ) where
  HasEcho : List Event → Type 0
  HasEcho history = filter (is_said is_echo a s) (out g history) ≡ map (body_of Echo a s) (option_to_list (echoed (votes g.own a s history)))

  echo_said : (history : List Event) (e : Event) (b t : ℕ) (o n r q : Option (List ℕ)) → filter (is_said is_echo a s) (send_of g.own (asks history) e ++ newly Echo b t o n ++ newly Ready b t r q) ≡ filter (is_said is_echo a s) (newly Echo b t o n)
  echo_said history e b t o n r q =
      filter-append (is_said is_echo a s) (send_of g.own (asks history) e ++ newly Echo b t o n) (newly Ready b t r q)
      ∙ ap₂ (λ (xs ys : List BodyFields). xs ++ ys) (filter-append (is_said is_echo a s) (send_of g.own (asks history) e) (newly Echo b t o n)) (newly-apart (is_said is_echo a s) Ready b t r q (λ v. refl))
      ∙ append-nil (filter (is_said is_echo a s) (send_of g.own (asks history) e) ++ filter (is_said is_echo a s) (newly Echo b t o n))
      ∙ ap (λ (xs : List BodyFields). xs ++ filter (is_said is_echo a s) (newly Echo b t o n)) (send-apart (is_said is_echo a s) g.own (asks history) e (λ v. refl))

  HasEcho-push : (history : List Event) (e : Event) → HasEcho history → HasEcho (history ++ e ∷ [])
  unfolding HasEcho says
  HasEcho-push history e before =
      let b = owner_of g.own e in
      let t = seq_of (asks history) e in
      let old = votes g.own a s history in
      let new = votes g.own a s (history ++ e ∷ []) in
      let o = echoed (votes g.own b t history) in
      let n = echoed (votes g.own b t (history ++ e ∷ [])) in
      let said = echo_said history e b t o n (readied g (votes g.own b t history)) (readied g (votes g.own b t (history ++ e ∷ []))) in
      ap (filter (is_said is_echo a s)) (out-push g history e)
      ∙ filter-append (is_said is_echo a s) (out g history) (says g history e)
      ∙ ap₂ (λ (xs ys : List BodyFields). xs ++ ys) before said
      ∙ either (cases_Bool (is_about g.own a s (asks history) e))
      (λ about.
      let same = same_place b a t s about in
      let grows : (w : List ℕ) → echoed old ≡ Some w → echoed new ≡ Some w = λ w is. ap echoed (votes-push g.own a s history e) ∙ stays old (votes_in g.own a s (asks history) e) w is in
      ap (λ (xs : List BodyFields). map (body_of Echo a s) (option_to_list (echoed old)) ++ xs)
      (newly-kept (is_said is_echo a s) Echo b t o n (λ v. about)
      ∙ ap₂ (λ x y. newly Echo x y (echoed (votes g.own x y history)) (echoed (votes g.own x y (history ++ e ∷ [])))) same.0 same.1)
      ∙ joined Echo a s (echoed old) (echoed new) grows)
      (λ about.
      let still : new ≡ old = votes-push g.own a s history e ∙ ap (λ vs. old ++ vs) (votes_in-other g.own a s (asks history) e about) ∙ append-nil old in
      ap (λ (xs : List BodyFields). map (body_of Echo a s) (option_to_list (echoed old)) ++ xs) (newly-apart (is_said is_echo a s) Echo b t o n (λ v. about))
      ∙ append-nil (map (body_of Echo a s) (option_to_list (echoed old)))
      ∙ ap (λ vs. map (body_of Echo a s) (option_to_list (echoed vs))) (sym still))

pub echo_in_out : EchoedStays → EchoInOut
unfolding HasEcho out votes echoed
echo_in_out stays g history a s = by_push (HasEcho stays g a s) refl (HasEcho-push stays g a s) history

module _ (stays : ReadiedStays) (g : Group) (a s : ℕ) where
  HasReady : List Event → Type 0
  HasReady history = filter (is_said is_ready_kind a s) (out g history) ≡ map (body_of Ready a s) (option_to_list (readied g (votes g.own a s history)))

  ready_said : (history : List Event) (e : Event) (b t : ℕ) (o n r q : Option (List ℕ)) → filter (is_said is_ready_kind a s) (send_of g.own (asks history) e ++ newly Echo b t o n ++ newly Ready b t r q) ≡ filter (is_said is_ready_kind a s) (newly Ready b t r q)
  ready_said history e b t o n r q =
      filter-append (is_said is_ready_kind a s) (send_of g.own (asks history) e ++ newly Echo b t o n) (newly Ready b t r q)
      ∙ ap (λ (xs : List BodyFields). xs ++ filter (is_said is_ready_kind a s) (newly Ready b t r q))
      (filter-append (is_said is_ready_kind a s) (send_of g.own (asks history) e) (newly Echo b t o n)
      ∙ ap₂ (λ (xs ys : List BodyFields). xs ++ ys) (send-apart (is_said is_ready_kind a s) g.own (asks history) e (λ v. refl)) (newly-apart (is_said is_ready_kind a s) Echo b t o n (λ v. refl)))

  HasReady-push : (history : List Event) (e : Event) → HasReady history → HasReady (history ++ e ∷ [])
  unfolding HasReady says
  HasReady-push history e before =
      let b = owner_of g.own e in
      let t = seq_of (asks history) e in
      let old = votes g.own a s history in
      let new = votes g.own a s (history ++ e ∷ []) in
      let r = readied g (votes g.own b t history) in
      let q = readied g (votes g.own b t (history ++ e ∷ [])) in
      let said = ready_said history e b t (echoed (votes g.own b t history)) (echoed (votes g.own b t (history ++ e ∷ []))) r q in
      ap (filter (is_said is_ready_kind a s)) (out-push g history e)
      ∙ filter-append (is_said is_ready_kind a s) (out g history) (says g history e)
      ∙ ap₂ (λ (xs ys : List BodyFields). xs ++ ys) before said
      ∙ either (cases_Bool (is_about g.own a s (asks history) e))
      (λ about.
      let same = same_place b a t s about in
      let grows : (w : List ℕ) → readied g old ≡ Some w → readied g new ≡ Some w = λ w is. ap (readied g) (votes-push g.own a s history e) ∙ stays g old (votes_in g.own a s (asks history) e) w is in
      ap (λ (xs : List BodyFields). map (body_of Ready a s) (option_to_list (readied g old)) ++ xs)
      (newly-kept (is_said is_ready_kind a s) Ready b t r q (λ v. about)
      ∙ ap₂ (λ x y. newly Ready x y (readied g (votes g.own x y history)) (readied g (votes g.own x y (history ++ e ∷ [])))) same.0 same.1)
      ∙ joined Ready a s (readied g old) (readied g new) grows)
      (λ about.
      let still : new ≡ old = votes-push g.own a s history e ∙ ap (λ vs. old ++ vs) (votes_in-other g.own a s (asks history) e about) ∙ append-nil old in
      ap (λ (xs : List BodyFields). map (body_of Ready a s) (option_to_list (readied g old)) ++ xs) (newly-apart (is_said is_ready_kind a s) Ready b t r q (λ v. about))
      ∙ append-nil (map (body_of Ready a s) (option_to_list (readied g old)))
      ∙ ap (λ vs. map (body_of Ready a s) (option_to_list (readied g vs))) (sym still))

pub ready_in_out : ReadiedStays → NotReadyAtFirst → ReadyInOut
unfolding HasReady out votes
ready_in_out stays none g history a s =
    by_push (HasReady stays g a s) (ap (λ o. map (body_of Ready a s) (option_to_list o)) (sym (none g))) (HasReady-push stays g a s) history

-- ---- the same as membership

bodies_said-self : (a s : ℕ) → (eqb a a && eqb s s) ≡ true
bodies_said-self a s = and_from (eqb a a) (eqb s s) (eq-eqb a a refl) (eq-eqb s s refl)

same-value : (kind : Kind) (a s : ℕ) (v w : List ℕ) → body_of kind a s w ≡ body_of kind a s v → w ≡ v
same-value kind a s v w e = ap (λ (b : BodyFields). b.value) e

module _ (kind : Kind) (a s : ℕ) (v : List ℕ) (bodies : List BodyFields) (test : BodyFields → Bool) (o : Option (List ℕ)) (passes : test (body_of kind a s v) ≡ true) (kept : filter test bodies ≡ map (body_of kind a s) (option_to_list o)) where
  Has : List BodyFields → Type 0
  Has xs = Contains xs (body_of kind a s v)

  pub known-said : Contains bodies (body_of kind a s v) → o ≡ Some v
  unfolding Has
  known-said at =
      let found = option-Contains (body_of kind a s) o (body_of kind a s v) (subst Has kept (Contains-filter test bodies (body_of kind a s v) passes at)) in
      found.1 ∙ ap Some (same-value kind a s v found.0 found.2)

  pub said-known : o ≡ Some v → Contains bodies (body_of kind a s v)
  unfolding Has
  said-known is = filter-Contains test bodies (body_of kind a s v) (subst Has (sym kept) (Contains-option (body_of kind a s) o v is))

pub echo_is_said : EchoedStays → EchoIsSaid
echo_is_said stays g history a s v =
    let kept = echo_in_out stays g history a s in
    let o = echoed (votes g.own a s history) in (
      known-said Echo a s v (out g history) (is_said is_echo a s) o (bodies_said-self a s) kept,
      said-known Echo a s v (out g history) (is_said is_echo a s) o (bodies_said-self a s) kept,
    )

pub ready_is_said : ReadiedStays → NotReadyAtFirst → ReadyIsSaid
ready_is_said stays none g history a s v =
    let kept = ready_in_out stays none g history a s in
    let o = readied g (votes g.own a s history) in (
      known-said Ready a s v (out g history) (is_said is_ready_kind a s) o (bodies_said-self a s) kept,
      said-known Ready a s v (out g history) (is_said is_ready_kind a s) o (bodies_said-self a s) kept,
    )
