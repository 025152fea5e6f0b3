-- A channel that takes an event follows the longer history.
use Rattle.std.proofs.Common.{◌≡◌, ℕ, ◌+◌, true, false, cond, eqb, List, [], ◌∷◌, ◌++◌, Option, None, Some, option_to_list, refl, sym, ap, ap₂, ◌∙◌, subst, append_assoc, append-nil, eqb-true}
use Rattle.std.proofs.lemmas.Bool.{cases_Bool, and_parts}
use Rattle.pay_frame.specs.declared.body.Kind.TheVariants.{Echo, Ready}
use Rattle.pay_frame.specs.Frame.{BodyFields}
use Rattle.pay_echo.specs.Broadcast.{Group, Vote, echoed, readied}
use Rattle.pay_echo.specs.Meaning.{meaning_of}
use Rattle.pay_channel.proofs.Lists.{either}
use Rattle.pay_channel.specs.History.{Event, is_ask, owner_of, seq_of, vote_of, is_about, votes_in, votes, send_of, newly, says, out, listed_values, delivered_at, list_of}
use Rattle.pay_channel.specs.State.{State, IsStateBy, meaning_at, delivered_value_at, channel_lists}
use Rattle.pay_channel.specs.Applied.{SeesIfVote, bodies_said, Takes, IsAsBefore}
use Rattle.pay_channel.proofs.Project.{votes-push, asks-push, out-push, votes_in-other, votes_in-here}

module _ (old new : State) (history : List Event) (e : Event) (takes : Takes old new e) (follows : IsStateBy old history) where
  -- the votes of a broadcast after the event, in the old state's words
  votes_now : (a s : ℕ) → votes old.group.own a s (history ++ e ∷ []) ≡ votes old.group.own a s history ++ votes_in old.group.own a s old.asks e
  votes_now a s = votes-push old.group.own a s history e ∙ ap (λ k. votes old.group.own a s history ++ votes_in old.group.own a s k e) (sym follows.asks)

  meaning_here : (a s : ℕ) → is_about old.group.own a s old.asks e ≡ true → (o : Option Vote) → vote_of e ≡ o → SeesIfVote (meaning_at old a s) (meaning_at new a s) o → meaning_at new a s ≡ meaning_of old.group (votes old.group.own a s (history ++ e ∷ []))
  meaning_here a s about None is same =
      let none : votes_in old.group.own a s old.asks e ≡ [] = votes_in-here old.group.own a s old.asks e about ∙ ap option_to_list is in
      let now = votes_now a s ∙ ap (λ vs. votes old.group.own a s history ++ vs) none ∙ append-nil (votes old.group.own a s history) in
      same ∙ follows.meanings a s ∙ ap (meaning_of old.group) (sym now)
  meaning_here a s about (Some x) is sees =
      let more : votes_in old.group.own a s old.asks e ≡ x ∷ [] = votes_in-here old.group.own a s old.asks e about ∙ ap option_to_list is in
      let now = votes_now a s ∙ ap (λ vs. votes old.group.own a s history ++ vs) more in
      sees old.group (votes old.group.own a s history) (follows.meanings a s) ∙ ap (meaning_of old.group) (sym now)

  meaning_other : (a s : ℕ) → is_about old.group.own a s old.asks e ≡ false → meaning_at new a s ≡ meaning_of old.group (votes old.group.own a s (history ++ e ∷ []))
  meaning_other a s about =
      let now = votes_now a s ∙ ap (λ vs. votes old.group.own a s history ++ vs) (votes_in-other old.group.own a s old.asks e about) ∙ append-nil (votes old.group.own a s history) in
      takes.others a s about ∙ follows.meanings a s ∙ ap (meaning_of old.group) (sym now)

  -- the event's own broadcast
  here_at : (a s : ℕ) → owner_of old.group.own e ≡ a → seq_of old.asks e ≡ s → SeesIfVote (meaning_at old a s) (meaning_at new a s) (vote_of e)
  here_at a s owner seq =
      let At : ℕ → ℕ → Type 0 = λ b t. SeesIfVote (meaning_at old b t) (meaning_at new b t) (vote_of e) in
      subst (At a) seq (subst (λ b. At b (seq_of old.asks e)) owner takes.here)

  meaning_now : (a s : ℕ) → meaning_at new a s ≡ meaning_of old.group (votes old.group.own a s (history ++ e ∷ []))
  meaning_now a s =
      either (cases_Bool (is_about old.group.own a s old.asks e))
      (λ about. let same = and_parts (eqb (owner_of old.group.own e) a) (eqb (seq_of old.asks e) s) about in
      meaning_here a s about (vote_of e) refl (here_at a s (eqb-true (owner_of old.group.own e) a same.0) (eqb-true (seq_of old.asks e) s same.1)))
      (λ about. meaning_other a s about)

  says_now : send_of old.group.own old.asks e ++ bodies_said (owner_of old.group.own e) (seq_of old.asks e) (meaning_at old (owner_of old.group.own e) (seq_of old.asks e)) (meaning_at new (owner_of old.group.own e) (seq_of old.asks e)) ≡ says old.group history e
  unfolding says meaning_of
  says_now =
      let a = owner_of old.group.own e in
      let s = seq_of old.asks e in
      let before = votes old.group.own a s history in
      let after = votes old.group.own a s (history ++ e ∷ []) in
      ap₂ (λ m n. send_of old.group.own old.asks e ++ bodies_said a s m n) (follows.meanings a s) (meaning_now a s)
      ∙ sym (append_assoc (send_of old.group.own old.asks e) (newly Echo a s (echoed before) (echoed after)) (newly Ready a s (readied old.group before) (readied old.group after)))
      ∙ ap (λ k. send_of old.group.own k e
      ++ newly Echo a (seq_of k e) (echoed (votes old.group.own a (seq_of k e) history)) (echoed (votes old.group.own a (seq_of k e) (history ++ e ∷ [])))
      ++ newly Ready a (seq_of k e) (readied old.group (votes old.group.own a (seq_of k e) history)) (readied old.group (votes old.group.own a (seq_of k e) (history ++ e ∷ [])))) follows.asks

  pub IsStateBy-push : IsStateBy new (history ++ e ∷ [])
  IsStateBy-push =
      record {
        meanings = λ a s. meaning_now a s ∙ ap (λ (g : Group). meaning_of g (votes g.own a s (history ++ e ∷ []))) (sym takes.group);
        asks = takes.asks ∙ ap (λ k. cond (is_ask e) (k + 1) k) follows.asks ∙ sym (asks-push history e);
        sent = takes.sent ∙ ap₂ (λ (xs ys : List BodyFields). xs ++ ys) follows.sent says_now ∙ sym (out-push old.group history e) ∙ ap (λ g. out g (history ++ e ∷ [])) (sym takes.group);
      }

-- what cannot be told apart follows the same
pub IsStateBy-before : (old new : State) (history : List Event) → IsAsBefore old new → IsStateBy old history → IsStateBy new history
IsStateBy-before old new history same follows =
    record {
      meanings = λ a s. same.meanings a s ∙ follows.meanings a s ∙ ap (λ (g : Group). meaning_of g (votes g.own a s history)) (sym same.group);
      asks = same.asks ∙ follows.asks;
      sent = same.sent ∙ follows.sent ∙ ap (λ g. out g history) (sym same.group);
    }

-- the lists are those of the history
pub lists-IsStateBy : (c : State) (history : List Event) → IsStateBy c history → (a : ℕ) → channel_lists c a ≡ list_of c.group history a
unfolding channel_lists list_of delivered_value_at delivered_at meaning_of
lists-IsStateBy c history follows a =
    let same : delivered_value_at c ≡ delivered_at c.group history = λ i b s. (follows.meanings b s i).delivered in
    ap (λ at. listed_values c.group at a) same
