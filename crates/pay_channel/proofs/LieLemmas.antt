-- Which bodies are lies, by the votes that stand in their places.
use Rattle.std.proofs.Common.{◌≡◌, ◌≢◌, ◌<◌, ◌⊎◌, ◌↔◌, ℕ, Bool, true, false, cond, eqb, inl, inr, List, [], Option, None, Some, Contains, is_some, refl, sym, ap, ◌∙◌, subst, arith, eqb-true, true≢false}
use Rattle.std.proofs.lemmas.Bool.{cases_Bool}
use Rattle.pay_frame.specs.declared.body.Kind.{Kind}
use Rattle.pay_frame.specs.declared.body.Kind.TheVariants.{Send, Echo, Ready, Want}
use Rattle.pay_frame.specs.Frame.{BodyFields}
use Rattle.pay_echo.specs.Broadcast as one
use Rattle.pay_echo.specs.Broadcast.{Group, Vote, IsForeign}
use Rattle.pay_echo.specs.Laws.{VotedIsTaken}
use Rattle.pay_echo.specs.Meaning.{Meaning, meaning_of}
use Rattle.pay_echo.specs.Step.{vote_before}
use Rattle.pay_channel.specs.FollowLaws.{LiesFollow}
use Rattle.pay_channel.specs.History.{Event, From, IsEvent, body_of, votes}
use Rattle.pay_channel.specs.Lies.{IsLie, is_lie_to}
use Rattle.pay_channel.specs.State.{State, IsStateBy, meaning_at}
use Rattle.pay_channel.specs.VoteLaws.{EchoIsTaken, ReadyIsTaken, SendIsTaken}
use Rattle.pay_channel.proofs.Lists.{either}

-- before any vote none stands in a place
pub none_voted_at_first : VotedIsTaken → (g : Group) (x : Vote) → IsForeign g x → is_some (vote_before (meaning_of g []) x) ≡ false
none_voted_at_first voted g x foreign =
    either (cases_Bool (is_some (vote_before (meaning_of g []) x)))
    (λ yes. let came = (voted g [] x foreign).0 yes in absurd (omega (arith, came.1.1)))
    (λ no. no)

module _ (voted : VotedIsTaken) (echo : EchoIsTaken) (ready : ReadyIsTaken) (send : SendIsTaken) (c : State) (history : List Event) (follows : IsStateBy c history) where
  -- what stands in a vote's place, by the history's votes
  stands : (a s : ℕ) (x : Vote) → is_some (vote_before (meaning_at c a s) x) ≡ is_some (vote_before (meaning_of c.group (votes c.group.own a s history)) x)
  stands a s x = ap (λ (m : Meaning). is_some (vote_before m x)) (follows.meanings a s)

  abbrev Came : ℕ → Kind → ℕ → ℕ → Type 0
  Came p k a s = (v : List ℕ) × Contains history (From p (body_of k a s v))

  abbrev IsLieOf : ℕ → Kind → ℕ → ℕ → List ℕ → Type 0
  IsLieOf p k a s v = (is_lie_to c p (body_of k a s v) ≡ true) ↔ IsLie history p (body_of k a s v)

  in_place : (p a s : ℕ) (k : Kind) (v : List ℕ) (x : Vote) → is_lie_to c p (body_of k a s v) ≡ is_some (vote_before (meaning_at c a s) x)
      → ((is_some (vote_before (meaning_of c.group (votes c.group.own a s history)) x) ≡ true) ↔ Came p k a s)
      → (IsLie history p (body_of k a s v) → Came p k a s) → IsLieOf p k a s v
  in_place p a s k v x is known counted = (
    λ yes. inr (known.0 (sym (is ∙ stands a s x) ∙ yes)),
    λ lie. is ∙ stands a s x ∙ known.1 (counted lie),
  )

  lie-send : (p a s : ℕ) (v : List ℕ) → p ≢ c.group.own → IsLieOf p Send a s v
  lie-send p a s v other = go (eqb p a) (eqb-true p a) refl where
    go : (b : Bool) → (eqb p a ≡ true → p ≡ a) → eqb p a ≡ b → IsLieOf p Send a s v
    go true same is =
        let at : p ≡ a = same is in
        let not_own : a ≢ c.group.own = λ own. other (at ∙ own) in
        let P : ℕ → Type 0 = λ q. Came q Send a s in
        in_place p a s Send v (one.Send v) (rw is refl) (
          λ yes. let came = (voted c.group (votes c.group.own a s history) (one.Send v) tt).0 yes in subst P (sym at) (came.0, (send c.group.own a s history came.0 not_own).0 came.1),
          λ came. let from = subst P at came in (voted c.group (votes c.group.own a s history) (one.Send v) tt).1 (from.0, (send c.group.own a s history from.0 not_own).1 from.1),
        )
        (λ lie. elim lie [ inl not ↦ absurd (true≢false (sym is ∙ not)) | inr came ↦ came ])
    go false same is = (λ _. inl is, λ _. rw is refl)

  lie-echo : (p a s : ℕ) (v : List ℕ) → p < c.group.members → p ≢ c.group.own → IsLieOf p Echo a s v
  lie-echo p a s v member other =
      in_place p a s Echo v (one.Echo p v) refl (
        λ yes. let came = (voted c.group (votes c.group.own a s history) (one.Echo p v) (member, other)).0 yes in (came.0, (echo c.group.own a s history p came.0).0 came.1),
        λ came. (voted c.group (votes c.group.own a s history) (one.Echo p v) (member, other)).1 (came.0, (echo c.group.own a s history p came.0).1 came.1),
      )
      (λ lie. elim lie [ inl not ↦ absurd (true≢false not) | inr came ↦ came ])

  lie-ready : (p a s : ℕ) (v : List ℕ) → p < c.group.members → p ≢ c.group.own → IsLieOf p Ready a s v
  lie-ready p a s v member other =
      in_place p a s Ready v (one.Ready p v) refl (
        λ yes. let came = (voted c.group (votes c.group.own a s history) (one.Ready p v) (member, other)).0 yes in (came.0, (ready c.group.own a s history p came.0).0 came.1),
        λ came. (voted c.group (votes c.group.own a s history) (one.Ready p v) (member, other)).1 (came.0, (ready c.group.own a s history p came.0).1 came.1),
      )
      (λ lie. elim lie [ inl not ↦ absurd (true≢false not) | inr came ↦ came ])

  lie-of : (p : ℕ) (k : Kind) (a s : ℕ) (v : List ℕ) → IsEvent c.group (From p (body_of k a s v)) → IsLieOf p k a s v
  lie-of p Send a s v may = lie-send p a s v may.1
  lie-of p Echo a s v may = lie-echo p a s v may.0 may.1
  lie-of p Ready a s v may = lie-ready p a s v may.0 may.1
  lie-of p Want a s v may = absurd (may.3 refl)

  pub lie_is : (p : ℕ) (body : BodyFields) → IsEvent c.group (From p body) → (is_lie_to c p body ≡ true) ↔ IsLie history p body
  lie_is p body may = lie-of p body.kind body.owner body.seq body.value may

pub lies_follow : VotedIsTaken → EchoIsTaken → ReadyIsTaken → SendIsTaken → LiesFollow
lies_follow voted echo ready send c history p body follows may = lie_is voted echo ready send c history follows p body may
