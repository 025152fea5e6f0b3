-- Between correct members, what is heard was said.
use Rattle.std.proofs.Common.{◌≡◌, ◌≢◌, ◌⊎◌, inl, inr, ℕ, List, Some, slice_get, All, Contains, sym, ap, ◌∙◌}
use Rattle.std.proofs.lemmas.Bool.{cases_eq}
use Rattle.pay_frame.specs.Frame.{BodyFields}
use Rattle.pay_frame.specs.declared.body.Kind.TheVariants.{Send, Echo, Ready}
use Rattle.pay_echo.specs.Broadcast.{echoed, echo_of, readied, ready_of}
use Rattle.pay_channel.specs.Prefix.{IsPrefix}
use Rattle.pay_channel.specs.History.{Event, From, IsEvent, body_of, out}
use Rattle.pay_channel.specs.Asked.{asked_values}
use Rattle.pay_channel.specs.Taken.{taken_bodies}
use Rattle.pay_world.specs.Setting.{Setting, group_at}
use Rattle.pay_world.specs.Stands.{votes_at}
use Rattle.pay_world.specs.Below.{Below}
use Rattle.pay_world.proofs.Lists.{prefix_Contains}

-- what member i took from j is a prefix of what j sent
abbrev pub Hears : Setting → (ℕ → List Event) → ℕ → ℕ → Type 0
Hears w histories i j = IsPrefix (taken_bodies j (histories i)) (out (group_at w j) (histories j))

module _ (below : Below) (w : Setting) (histories : ℕ → List Event) where
  -- a body taken from j was sent by it
  was_sent : (i j : ℕ) (body : BodyFields) → Hears w histories i j → Contains (histories i) (From j body) → Contains (out (group_at w j) (histories j)) body
  was_sent i j body hears at =
      prefix_Contains (taken_bodies j (histories i)) (out (group_at w j) (histories j)) body hears
      ((below.channel.taken_is_from j (histories i) body).1 at)

  pub heard_echo :
      (i j a s : ℕ) (v : List ℕ) → Hears w histories i j
      → echo_of (group_at w i) (votes_at histories i a s) j ≡ Some v → echoed (votes_at histories j a s) ≡ Some v
  heard_echo i j a s v hears heard = go (cases_eq j i) where
    go : ((j ≡ i) ⊎ (j ≢ i)) → echoed (votes_at histories j a s) ≡ Some v
    go (inl same) =
        ap (λ k. echoed (votes_at histories k a s)) same
        ∙ sym (below.one.own_echo (group_at w i) (votes_at histories i a s))
        ∙ sym (ap (echo_of (group_at w i) (votes_at histories i a s)) same)
        ∙ heard
    go (inr differs) =
        let came = below.one.echo_came (group_at w i) (votes_at histories i a s) j v differs heard in
        let took = (below.channel.echo_is_taken i a s (histories i) j v).0 came in
        (below.channel.echo_is_said (group_at w j) (histories j) a s v).0 (was_sent i j (body_of Echo a s v) hears took)

  pub heard_ready :
      (i j a s : ℕ) (v : List ℕ) → Hears w histories i j
      → ready_of (group_at w i) (votes_at histories i a s) j ≡ Some v → readied (group_at w j) (votes_at histories j a s) ≡ Some v
  heard_ready i j a s v hears heard = go (cases_eq j i) where
    go : ((j ≡ i) ⊎ (j ≢ i)) → readied (group_at w j) (votes_at histories j a s) ≡ Some v
    go (inl same) =
        ap (λ k. readied (group_at w k) (votes_at histories k a s)) same
        ∙ sym (below.one.own_ready (group_at w i) (votes_at histories i a s))
        ∙ sym (ap (ready_of (group_at w i) (votes_at histories i a s)) same)
        ∙ heard
    go (inr differs) =
        let came = below.one.ready_came (group_at w i) (votes_at histories i a s) j v differs heard in
        let took = (below.channel.ready_is_taken i a s (histories i) j v).0 came in
        (below.channel.ready_is_said (group_at w j) (histories j) a s v).0 (was_sent i j (body_of Ready a s v) hears took)

  -- what is echoed of a correct owner, the owner was asked to broadcast
  pub heard_send :
      (i a s : ℕ) (v : List ℕ) → Hears w histories i a → All (IsEvent (group_at w a)) (histories a)
      → echoed (votes_at histories i a s) ≡ Some v → slice_get (asked_values (histories a)) s ≡ Some v
  heard_send i a s v hears proper heard = go (cases_eq a i) where
    go : ((a ≡ i) ⊎ (a ≢ i)) → slice_get (asked_values (histories a)) s ≡ Some v
    go (inl same) =
        sym (below.channel.own_echo_is_ask (group_at w a) (histories a) s proper)
        ∙ ap (λ k. echoed (votes_at histories k a s)) same
        ∙ heard
    go (inr differs) =
        let came = below.one.send_came (votes_at histories i a s) v heard in
        let took = (below.channel.send_is_taken i a s (histories i) v differs).0 came in
        ((below.channel.sent_is_asked (group_at w a) (histories a) a s v).0 (was_sent i a (body_of Send a s v) hears took)).1
