-- Where a vote stands, one came.
use Rattle.std.proofs.Common.{◌≡◌, ◌≢◌, ℕ, true, List, Option, None, Some, is_some, refl, sym, ap, ◌∙◌}
use Rattle.pay_echo.specs.Broadcast.{Group, Vote, Send, Echo, Ready, echoed, echo_of, ready_of}
use Rattle.pay_echo.specs.Meaning.{meaning_of}
use Rattle.pay_echo.specs.Step.{vote_at}
use Rattle.pay_echo.specs.Laws.{VotedIsTaken}
use Rattle.pay_echo.proofs.SecondVotes.{echo_at, ready_at}
use Rattle.pay_echo.proofs.VoteLaws.{echo_of-found, ready_of-found, send_came, echo_came, ready_came}
use Rattle.pay_echo.proofs.WhyLaws.{send_is_echoed, echo_counts, ready_counts}

value-some : (p : Option (List ℕ)) → is_some p ≡ true → (v : List ℕ) × (p ≡ Some v)
value-some None e = cc
value-some (Some v) e = (v, refl)

value-in : (o p : Option (List ℕ)) → o ≡ p → is_some o ≡ true → (v : List ℕ) × (p ≡ Some v)
value-in o p same e = value-some p (sym (ap is_some same) ∙ e)

some-in : (o p : Option (List ℕ)) → o ≡ p → (p ≡ None → ⊥) → is_some o ≡ true
some-in None p same there = absurd (there (sym same))
some-in (Some v) p same there = refl

pub voted_is_taken : VotedIsTaken
unfolding meaning_of
voted_is_taken g votes (Send w) foreign = (
  λ e. let is = value-in (echoed votes) (echoed votes) refl e in (is.0, send_came votes is.0 is.1),
  λ came. some-in (echoed votes) (echoed votes) refl (send_is_echoed votes came.0 came.1),
)
voted_is_taken g votes (Echo p w) foreign =
    let same : vote_at (meaning_of g votes).echoes p ≡ echo_of g votes p = echo_at g votes p foreign.0 foreign.1 ∙ sym (echo_of-found g votes p foreign.1) in (
      λ e. let is = value-in (vote_at (meaning_of g votes).echoes p) (echo_of g votes p) same e in (is.0, echo_came g votes p is.0 foreign.1 is.1),
      λ came. some-in (vote_at (meaning_of g votes).echoes p) (echo_of g votes p) same (echo_counts g votes p came.0 foreign.1 came.1),
    )
voted_is_taken g votes (Ready p w) foreign =
    let same : vote_at (meaning_of g votes).readys p ≡ ready_of g votes p = ready_at g votes p foreign.0 foreign.1 ∙ sym (ready_of-found g votes p foreign.1) in (
      λ e. let is = value-in (vote_at (meaning_of g votes).readys p) (ready_of g votes p) same e in (is.0, ready_came g votes p is.0 foreign.1 is.1),
      λ came. some-in (vote_at (meaning_of g votes).readys p) (ready_of g votes p) same (ready_counts g votes p came.0 foreign.1 came.1),
    )
