-- What a channel that follows a history shows and answers.
use Rattle.std.proofs.Common.{◌≡◌, ℕ, ◌+◌, List, [], ◌∷◌, ◌++◌, length, refl, sym, ap, ap₂, ◌∙◌, subst}
use Rattle.pay_echo.specs.Broadcast.{Group}
use Rattle.pay_echo.specs.Meaning.{Meaning, meaning_of, became}
use Rattle.pay_channel.specs.History.{Event, owner_of, seq_of, votes, out, delivered_at, list_of}
use Rattle.pay_channel.specs.State.{State, IsStateBy, meaning_at, delivered_value_at, channel_lists}
use Rattle.pay_channel.specs.Applied.{IsToldOf}
use Rattle.pay_channel.specs.Answer.{IsAnswerAt}
use Rattle.pay_channel.specs.FollowLaws.{ChannelFollows, UnchangedFollows, ValuesFollow, ListsFollow, AnswersFollow, FollowersAreAlike}
use Rattle.pay_channel.specs.declared.channel.Applied.{Applied}
use Rattle.pay_channel.proofs.Follow.{IsStateBy-push, IsStateBy-before, lists-IsStateBy}

pub channel_follows : ChannelFollows
channel_follows old new history e takes follows = IsStateBy-push old new history e takes follows

pub unchanged_follows : UnchangedFollows
unchanged_follows old new history same follows = IsStateBy-before old new history same follows

pub values_follow : ValuesFollow
unfolding delivered_value_at delivered_at meaning_of
values_follow c history follows a s = ap (λ (m : Meaning). m.delivered) (follows.meanings a s)

pub lists_follow : ListsFollow
lists_follow c history follows a = lists-IsStateBy c history follows a

module _ (old new : State) (history more : List Event) (follows : IsStateBy old history) (later : IsStateBy new more) (group : new.group ≡ old.group) (a s : ℕ) where
  -- in the old state's group
  meaning_later : meaning_at new a s ≡ meaning_of old.group (votes old.group.own a s more)
  meaning_later = later.meanings a s ∙ ap (λ (g : Group). meaning_of g (votes g.own a s more)) group

  value_later : delivered_value_at new a s ≡ delivered_at old.group more a s
  value_later = values_follow new more later a s ∙ ap (λ (g : Group). delivered_at g more a s) group

  list_later : channel_lists new a ≡ list_of old.group more a
  list_later = lists_follow new more later a ∙ ap (λ (g : Group). list_of g more a) group

  pub told-answer : (e : Event) (applied : Applied) → more ≡ history ++ e ∷ [] → IsToldOf old new a s applied → IsAnswerAt old.group history e a s applied
  unfolding meaning_of delivered_value_at
  told-answer e applied is told =
      let was = follows.meanings a s in
      let now = meaning_later ∙ ap (λ (h : List Event). meaning_of old.group (votes old.group.own a s h)) is in
      record {
        echo = told.echo ∙ ap₂ (λ (m n : Meaning). became m.echoed n.echoed) was now;
        ready = told.ready ∙ ap₂ (λ (m n : Meaning). became m.readied n.readied) was now;
        deliver = told.deliver
            ∙ ap₂ became (values_follow old history follows a s) (value_later ∙ ap (λ (h : List Event). delivered_at old.group h a s) is);
        grown = ap (λ (xs : List (List ℕ)). length xs + applied.grown) (sym (lists_follow old history follows a))
            ∙ told.grown
            ∙ ap length (list_later ∙ ap (λ (h : List Event). list_of old.group h a) is);
      }

pub answers_follow : AnswersFollow
answers_follow old new history e applied follows takes told =
    let later = IsStateBy-push old new history e takes follows in
    let a = owner_of old.group.own e in
    let P : ℕ → Type 0 = λ k. IsAnswerAt old.group history e a (seq_of k e) applied in
    subst P follows.asks (told-answer old new history (history ++ e ∷ []) follows later takes.group a (seq_of old.asks e) e applied refl told)

pub followers_are_alike : FollowersAreAlike
followers_are_alike one other history group first second =
    record {
      group = sym group;
      asks = second.asks ∙ sym first.asks;
      sent = second.sent ∙ ap (λ (g : Group). out g history) (sym group) ∙ sym first.sent;
      meanings = λ a s. second.meanings a s ∙ ap (λ (g : Group). meaning_of g (votes g.own a s history)) (sym group) ∙ sym (first.meanings a s);
    }
