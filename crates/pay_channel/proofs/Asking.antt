-- A vote for a value of one's own, and one ask more.
use Rattle.std.proofs.Common.{◌≡◌, ℕ, ◌+◌, List, [], ◌∷◌, ◌++◌, Some, Result, Ok, Err, refl, sym, subst}
use Rattle.std.specs.Result.{OnOk}
use Rattle.pay_frame.specs.declared.body.Kind.TheVariants.{Send}
use Rattle.pay_frame.specs.Frame.{BodyFields}
use Rattle.pay_echo.specs.Broadcast as one
use Rattle.pay_channel.specs.Source.{GrowsOnly}
use Rattle.pay_channel.specs.History.{Event, Ask, body_of}
use Rattle.pay_channel.specs.State.{State, IsSound, IsStateBy, meaning_at, delivered_value_at, channel_lists}
use Rattle.pay_channel.specs.Applied.{TakesVote, IsToldOf, Takes}
use Rattle.pay_channel.specs.declared.channel.Applied.{Applied}
use Rattle.pay_channel.proofs.Follow.{IsStateBy-push}

-- a state with another count of asks
abbrev pub with_asks : State → ℕ → State
with_asks c k = record { group = c.group; asks = k; slots = c.slots; sent = c.sent }

pub asked_sound : (c : State) (k : ℕ) (lengths : List ℕ) → IsSound c lengths → IsSound (with_asks c k) lengths
unfolding meaning_at delivered_value_at channel_lists
asked_sound c k lengths sound = record { few = sound.few; own = sound.own; reached = sound.reached; places = sound.places; counted = sound.counted }

module _ (old new : State) (own seq : ℕ) (own_is : own ≡ old.group.own) (seq_is : seq ≡ old.asks) where
  pub asked_takes : (v : List ℕ) (send : BodyFields) → send ≡ body_of Send own seq v → TakesVote old new own seq (Some (one.Send v)) (send ∷ []) → Takes old (with_asks new (seq + 1)) (Ask v)
  unfolding meaning_at
  asked_takes v send send_is takes =
      let Took : ℕ → ℕ → BodyFields → Type 0 = λ a s b. TakesVote old new a s (Some (one.Send v)) (b ∷ []) in
      let here = subst (λ a. Took a old.asks (body_of Send a old.asks v)) own_is (subst (λ s. Took own s (body_of Send own s v)) seq_is (subst (Took own seq) send_is takes)) in
      let Counts : ℕ → Type 0 = λ s. Takes old (with_asks new (s + 1)) (Ask v) in
      subst Counts (sym seq_is) (record { group = here.group; asks = refl; here = here.here; others = here.others; sent = here.sent })

  pub asked_told : (k : ℕ) (applied : Applied) → IsToldOf old new own seq applied → IsToldOf old (with_asks new k) old.group.own old.asks applied
  unfolding meaning_at delivered_value_at channel_lists
  asked_told k applied told =
      let Told : ℕ → ℕ → Type 0 = λ a s. IsToldOf old new a s applied in
      let here = subst (λ a. Told a old.asks) own_is (subst (Told own) seq_is told) in
      record { echo = here.echo; ready = here.ready; deliver = here.deliver; grown = here.grown }

  pub asked_grow : (k : ℕ) → GrowsOnly (channel_lists old) (channel_lists new) own → GrowsOnly (channel_lists old) (channel_lists (with_asks new k)) old.group.own
  unfolding meaning_at delivered_value_at channel_lists
  asked_grow k grow = subst (GrowsOnly (channel_lists old) (channel_lists new)) own_is grow

pub taken_follows : {T E : Type 0} (r : Result T E) (old new : State) (e : Event) → OnOk r (Takes old new e) → OnOk r ((history : List Event) → IsStateBy old history → IsStateBy new (history ++ e ∷ []))
taken_follows (Ok x) old new e takes = λ history follows. IsStateBy-push old new history e takes follows
taken_follows (Err x) old new e takes = tt
