-- Which events are votes in one broadcast.
use Rattle.std.proofs.Common.{◌≡◌, ◌≢◌, ℕ, zero, suc, Bool, true, false, cond, ◌&&◌, eqb, List, Option, None, Some, option_to_list, Contains, refl, sym, ap, ◌∙◌, subst, arith, eqb-true, eq-eqb}
use Rattle.std.proofs.lemmas.Bool.{cond-true, cases_Bool, and_parts, and_from}
use Rattle.pay_frame.specs.declared.body.Kind.{Kind}
use Rattle.pay_frame.specs.declared.body.Kind.TheVariants.{Send, Echo, Ready, Want}
use Rattle.pay_echo.specs.Broadcast as one
use Rattle.pay_echo.specs.Broadcast.{Vote}
use Rattle.pay_channel.specs.History.{Event, Ask, From, asks, vote_of, is_about, votes_in, votes, body_of}
use Rattle.pay_channel.specs.VoteLaws.{NoVotesAtFirst, EchoIsTaken, ReadyIsTaken, SendIsTaken}
use Rattle.pay_channel.proofs.Project.{votes-push, votes_in-other, votes_in-here}
use Rattle.pay_channel.proofs.Lists.{either, came_by_push, there_by_push}

pub no_votes_at_first : NoVotesAtFirst
unfolding votes
no_votes_at_first own a s = refl

-- ---- an event that is a vote is about its broadcast, and has that vote

module _ (own a s k : ℕ) (e : Event) (x : Vote) where
  pub vote-is : Contains (votes_in own a s k e) x → (is_about own a s k e ≡ true) × (vote_of e ≡ Some x)
  vote-is at =
      either (cases_Bool (is_about own a s k e))
      (λ about. (about, it (vote_of e) (subst Has (votes_in-here own a s k e about) at)))
      (λ other. let bad = subst Has (votes_in-other own a s k e other) at in absurd (omega (arith, bad.1))) where
        Has : List Vote → Type 0
        Has vs = Contains vs x

        it : (o : Option Vote) → Contains (option_to_list o) x → o ≡ Some x
        it None at = absurd (omega (arith, at.1))
        it (Some y) (zero, below, is) = ap Some is
        it (Some y) (suc j, below, is) = absurd (omega arith)

  pub is-vote : is_about own a s k e ≡ true → vote_of e ≡ Some x → Contains (votes_in own a s k e) x
  is-vote about vote =
      let P : List Vote → Type 0 = λ vs. Contains vs x in
      subst P (sym (votes_in-here own a s k e about ∙ ap option_to_list vote)) (zero, omega arith, refl)

-- ---- bodies of others

about-self : (a s : ℕ) → (eqb a a && eqb s s) ≡ true
about-self a s = and_from (eqb a a) (eqb s s) (eq-eqb a a refl) (eq-eqb s s refl)

same-event : (p q a b s t : ℕ) (k l : Kind) (v w : List ℕ) → q ≡ p → k ≡ l → b ≡ a → t ≡ s → w ≡ v → From q (body_of k b t w) ≡ From p (body_of l a s v)
same-event p q a b s t k l v w p-is kind owner seq value = cc

-- what body, from whom, is this vote
abbrev IsBody : Kind → ℕ → List ℕ → Kind → ℕ → List ℕ → Type 0
IsBody kind p v k q w = (q ≡ p) × (k ≡ kind) × (w ≡ v)

some_echo : (p q : ℕ) (v w : List ℕ) → Some (one.Echo q w) ≡ Some (one.Echo p v) → (q ≡ p) × (w ≡ v)
some_echo p q v w e = (cc, cc)

some_ready : (p q : ℕ) (v w : List ℕ) → Some (one.Ready q w) ≡ Some (one.Ready p v) → (q ≡ p) × (w ≡ v)
some_ready p q v w e = (cc, cc)

some_send : (v w : List ℕ) → Some (one.Send w) ≡ Some (one.Send v) → w ≡ v
some_send v w e = cc

no_echo : (b : Bool) (p : ℕ) (v w : List ℕ) → cond b (Some (one.Send w)) None ≡ Some (one.Echo p v) → ⊥
no_echo true p v w e = cc
no_echo false p v w e = cc

no_ready : (b : Bool) (p : ℕ) (v w : List ℕ) → cond b (Some (one.Send w)) None ≡ Some (one.Ready p v) → ⊥
no_ready true p v w e = cc
no_ready false p v w e = cc

echo-body : (p : ℕ) (v : List ℕ) (k : Kind) (q b t : ℕ) (w : List ℕ) → vote_of (From q (body_of k b t w)) ≡ Some (one.Echo p v) → IsBody Echo p v k q w
echo-body p v Send q b t w e = absurd (no_echo (eqb q b) p v w e)
echo-body p v Echo q b t w e = let same = some_echo p q v w e in (same.0, refl, same.1)
echo-body p v Ready q b t w e = cc
echo-body p v Want q b t w e = cc

ready-body : (p : ℕ) (v : List ℕ) (k : Kind) (q b t : ℕ) (w : List ℕ) → vote_of (From q (body_of k b t w)) ≡ Some (one.Ready p v) → IsBody Ready p v k q w
ready-body p v Send q b t w e = absurd (no_ready (eqb q b) p v w e)
ready-body p v Echo q b t w e = cc
ready-body p v Ready q b t w e = let same = some_ready p q v w e in (same.0, refl, same.1)
ready-body p v Want q b t w e = cc

send-body : (v : List ℕ) (k : Kind) (q b t : ℕ) (w : List ℕ) → vote_of (From q (body_of k b t w)) ≡ Some (one.Send v) → IsBody Send b v k q w
send-body v Send q b t w e = go (eqb q b) (eqb-true q b) e where
  go : (c : Bool) → (c ≡ true → q ≡ b) → cond c (Some (one.Send w)) None ≡ Some (one.Send v) → (q ≡ b) × (Send ≡ Send) × (w ≡ v)
  go true same found = (same refl, refl, some_send v w found)
  go false same found = cc
send-body v Echo q b t w e = cc
send-body v Ready q b t w e = cc
send-body v Want q b t w e = cc

-- ---- the three laws

module _ (own a s : ℕ) where
  abbrev In : List Event → Event → List Vote
  In history e = votes_in own a s (asks history) e

  -- the event that alone is the vote
  module _ (e : Event) (x : Vote) (about : (k : ℕ) → is_about own a s k e ≡ true) (vote : vote_of e ≡ Some x) (only : (k : ℕ) (d : Event) → is_about own a s k d ≡ true → vote_of d ≡ Some x → d ≡ e) where
    pub came : (history : List Event) → Contains (votes own a s history) x → Contains history e
    came history =
        came_by_push (votes own a s) In (votes-push own a s) e x (no_votes_at_first own a s)
        (λ history d at. let is = vote-is own a s (asks history) d x at in only (asks history) d is.0 is.1)
        history

    pub there : (history : List Event) → Contains history e → Contains (votes own a s history) x
    there history =
        there_by_push (votes own a s) In (votes-push own a s) e x
        (λ history. is-vote own a s (asks history) e x (about (asks history)) vote)
        history

  same-place : (b t : ℕ) → (eqb b a && eqb t s) ≡ true → (b ≡ a) × (t ≡ s)
  same-place b t e = let both = and_parts (eqb b a) (eqb t s) e in (eqb-true b a both.0, eqb-true t s both.1)

  only_echo : (p : ℕ) (v : List ℕ) (k : ℕ) (d : Event) → is_about own a s k d ≡ true → vote_of d ≡ Some (one.Echo p v) → d ≡ From p (body_of Echo a s v)
  only_echo p v k (Ask w) about vote = cc
  only_echo p v k (From q body) about vote =
      let at = same-place body.owner body.seq about in
      let is = echo-body p v body.kind q body.owner body.seq body.value vote in
      same-event p q a body.owner s body.seq body.kind Echo v body.value is.0 is.1 at.0 at.1 is.2

  only_ready : (p : ℕ) (v : List ℕ) (k : ℕ) (d : Event) → is_about own a s k d ≡ true → vote_of d ≡ Some (one.Ready p v) → d ≡ From p (body_of Ready a s v)
  only_ready p v k (Ask w) about vote = cc
  only_ready p v k (From q body) about vote =
      let at = same-place body.owner body.seq about in
      let is = ready-body p v body.kind q body.owner body.seq body.value vote in
      same-event p q a body.owner s body.seq body.kind Ready v body.value is.0 is.1 at.0 at.1 is.2

  only_send : (v : List ℕ) → a ≢ own → (k : ℕ) (d : Event) → is_about own a s k d ≡ true → vote_of d ≡ Some (one.Send v) → d ≡ From a (body_of Send a s v)
  only_send v other k (Ask w) about vote = absurd (other (sym (same-place own k about).0))
  only_send v other k (From q body) about vote =
      let at = same-place body.owner body.seq about in
      let is = send-body v body.kind q body.owner body.seq body.value vote in
      same-event a q a body.owner s body.seq body.kind Send v body.value (is.0 ∙ at.0) is.1 at.0 at.1 is.2

pub echo_is_taken : EchoIsTaken
echo_is_taken own a s history p v = (
  came own a s (From p (body_of Echo a s v)) (one.Echo p v) (λ k. about-self a s) refl (only_echo own a s p v) history,
  there own a s (From p (body_of Echo a s v)) (one.Echo p v) (λ k. about-self a s) refl (only_echo own a s p v) history,
)

pub ready_is_taken : ReadyIsTaken
ready_is_taken own a s history p v = (
  came own a s (From p (body_of Ready a s v)) (one.Ready p v) (λ k. about-self a s) refl (only_ready own a s p v) history,
  there own a s (From p (body_of Ready a s v)) (one.Ready p v) (λ k. about-self a s) refl (only_ready own a s p v) history,
)

pub send_is_taken : SendIsTaken
send_is_taken own a s history v other =
    let counts-own : vote_of (From a (body_of Send a s v)) ≡ Some (one.Send v) = cond-true (eqb a a) (Some (one.Send v)) None (eq-eqb a a refl) in (
      came own a s (From a (body_of Send a s v)) (one.Send v) (λ k. about-self a s) counts-own (only_send own a s v other) history,
      there own a s (From a (body_of Send a s v)) (one.Send v) (λ k. about-self a s) counts-own (only_send own a s v other) history,
    )
