-- Actions that make the same histories as steps with restarts.
use Rattle.std.proofs.Common.{◌≡◌, ◌≢◌, inl, inr, ℕ, Bool, true, not, cond, eqb, List, [], ◌∷◌, ◌++◌, length, take, refl, sym, ap, ◌∙◌, subst, arith, append_assoc, ne_eqb}
use Rattle.std.specs.List.{All}
use Rattle.std.proofs.lemmas.Bool.{cases_eq}
use Rattle.std.proofs.lemmas.List.{take_at}
use Rattle.std.proofs.lemmas.List.Elements.{All-append, All-cons, All-filter, All-nil}
use Rattle.pay_channel.specs.Prefix.{IsPrefix}
use Rattle.pay_channel.specs.History.{Event, list_of}
use Rattle.pay_channel.specs.Asked.{asked_values}
use Rattle.pay_world.specs.Setting.{Setting, group_at, IsCorrect}
use Rattle.pay_world.specs.Actions.{Action, member_of, adds, history_by}
use Rattle.pay_world.specs.ActionLaws.{NoHistoryAtFirst, HistoryByOneMore, HistoriesGrow, NoActionIsGenuine, GenuineByOneMore, PrefixIsGenuine}
use Rattle.pay_world.specs.Genuine.{IsGenuineIn, AreGenuine}
use Rattle.pay_world.specs.StandLaws.{GenuineStands, ListIsAsked}
use Rattle.pay_world.specs.HeadlineLaws.{HeadlineHolds}
use Rattle.pay_laws.specs.Forgetting.{elsewhere, IsAmong, ForgettingIsNoLie}
use Rattle.pay_laws.specs.Restarts.{Step, Happens, Restarts, history_with, history_through, history_by_steps, IsStepAmong, IsFair, AreFair, RestartIsNoLie, HeadlineOfRestarts, CorrectMembersRemember}
use Rattle.pay_laws.proofs.Forgetting.{by_push, all_front, all_back, all_last, split}

-- ---- histories by steps

through_more :
    (w : Setting) (i : ℕ) (history : List Event) (steps more : List Step)
    → history_through w i history (steps ++ more) ≡ history_through w i (history_through w i history steps) more
through_more w i history [] more = refl
through_more w i history (s ∷ steps) more = through_more w i (history_with w i history s) steps more

pub steps_none : (w : Setting) (i : ℕ) → history_by_steps w [] i ≡ []
unfolding history_by_steps
steps_none w i = refl

pub steps_more : (w : Setting) (steps : List Step) (s : Step) (i : ℕ) → history_by_steps w (steps ++ s ∷ []) i ≡ history_with w i (history_by_steps w steps i) s
unfolding history_by_steps
steps_more w steps s i = through_more w i [] steps (s ∷ [])

pub restart_here : (w : Setting) (k i kept : ℕ) (history : List Event) → k ≡ i → history_with w i history (Restarts k kept) ≡ take kept history
restart_here w k i kept history is = ap (λ (b : Bool). cond b (take kept history) history) (eq_eqb is) where
  eq_eqb : k ≡ i → eqb k i ≡ true
  eq_eqb same = grind arith

pub restart_elsewhere : (w : Setting) (k i kept : ℕ) (history : List Event) → k ≢ i → history_with w i history (Restarts k kept) ≡ history
restart_elsewhere w k i kept history other = ap (λ (b : Bool). cond b (take kept history) history) (ne_eqb k i other)

-- ---- fair steps

pub fair_front : (w : Setting) (steps more : List Step) → AreFair w (steps ++ more) → AreFair w steps
fair_front w steps more are = record {
  each = λ before s after is.
      are.each before s (after ++ more) (ap (λ (l : List Step). l ++ more) is ∙ append_assoc before (s ∷ after) more);
}

-- ---- actions that tell of steps

pub record Told (w : Setting) (steps : List Step) : Type 0 where
  pub actions : List Action
  pub genuine : AreGenuine w actions
  pub same : (i : ℕ) → history_by w actions i ≡ history_by_steps w steps i
  pub among : (k : ℕ) (history : List Event) → All (IsStepAmong w k history) steps → All (IsAmong w k history) actions

module _ (no_history : NoHistoryAtFirst) (one_more : HistoryByOneMore) (grow : HistoriesGrow) (none_genuine : NoActionIsGenuine)
    (genuine_more : GenuineByOneMore) (forgets : ForgettingIsNoLie) (w : Setting) where
  told_none : Told w []
  told_none = record {
    actions = [];
    genuine = none_genuine w;
    same = λ i. no_history w i ∙ sym (steps_none w i);
    among = λ k history all. All-nil (IsAmong w k history);
  }

  told_action : (steps : List Step) (d : Action) → IsGenuineIn w (history_by_steps w steps) d → Told w steps → Told w (steps ++ Happens d ∷ [])
  told_action steps d genuine t = record {
    actions = t.actions ++ d ∷ [];
    genuine = genuine_more w t.actions d t.genuine (subst (λ (h : ℕ → List Event). IsGenuineIn w h d) (λ j i. sym (t.same i) j) genuine);
    same = λ i.
        one_more w t.actions d i ∙ ap (λ (h : List Event). h ++ adds w i h d) (t.same i) ∙ sym (steps_more w steps (Happens d) i);
    among = λ k history all.
        All-append (IsAmong w k history) t.actions (d ∷ [])
        (t.among k history (all_front (IsStepAmong w k history) steps (Happens d ∷ []) all))
        (All-cons (IsAmong w k history) d [] (all_last (IsStepAmong w k history) steps (Happens d) all) (All-nil (IsAmong w k history)));
  }

  told_restart :
      (steps : List Step) (k kept : ℕ) → (IsCorrect w k → All (IsStepAmong w k (take kept (history_by_steps w steps k))) steps)
      → Told w steps → Told w (steps ++ Restarts k kept ∷ [])
  told_restart steps k kept known t =
      let s = split no_history one_more grow w k kept t.actions in
      let kept_is : history_by w s.first k ≡ take kept (history_by_steps w steps k) = s.history ∙ ap (take kept) (t.same k) in
      let are : AreGenuine w (s.first ++ s.later) = subst (AreGenuine w) s.is t.genuine in
      let later_known : IsCorrect w k → All (IsAmong w k (history_by w s.first k)) s.later =
      λ ck.
      subst (λ (h : List Event). All (IsAmong w k h) s.later) (sym kept_is)
      (all_back (IsAmong w k (take kept (history_by_steps w steps k))) s.first s.later
      (subst (λ (l : List Action). All (IsAmong w k (take kept (history_by_steps w steps k))) l) s.is
      (t.among k (take kept (history_by_steps w steps k)) (known ck)))) in
      let forgot = forgets w s.first s.later k are later_known in
      record {
        actions = s.first ++ elsewhere k s.later;
        genuine = forgot.0;
        same = λ i. elim (cases_eq k i) [
          | inl here ↦
              let P : ℕ → Type 0 = λ p. history_by w (s.first ++ elsewhere k s.later) p ≡ take kept (history_by_steps w steps p) in
              subst P here (forgot.1 ∙ kept_is) ∙ sym (restart_here w k i kept (history_by_steps w steps i) here) ∙ sym (steps_more w steps (Restarts k kept) i)
          | inr other ↦
              forgot.2 i (λ is. other (sym is)) ∙ ap (λ (l : List Action). history_by w l i) (sym s.is) ∙ t.same i
              ∙ sym (restart_elsewhere w k i kept (history_by_steps w steps i) other) ∙ sym (steps_more w steps (Restarts k kept) i)
        ];
        among = λ j history all.
            let P = IsAmong w j history in
            let every : All P (s.first ++ s.later) = subst (All P) s.is (t.among j history (all_front (IsStepAmong w j history) steps (Restarts k kept ∷ []) all)) in
            All-append P s.first (elsewhere k s.later) (all_front P s.first s.later every)
            (All-filter (λ (d : Action). not (eqb (member_of d) k)) P s.later (all_back P s.first s.later every));
      }

  told_step : (steps : List Step) (s : Step) → IsFair w steps s → Told w steps → Told w (steps ++ s ∷ [])
  told_step steps (Happens d) fair t = told_action steps d fair t
  told_step steps (Restarts k kept) fair t = told_restart steps k kept fair t

  IsTold : List Step → Type 0
  IsTold steps = AreFair w steps → Told w steps

  pub told : (steps : List Step) → AreFair w steps → Told w steps
  unfolding IsTold
  told = by_push IsTold (λ are. told_none) step where
    step : (steps : List Step) (s : Step) → IsTold steps → IsTold (steps ++ s ∷ [])
    step steps s before are = told_step steps s (are.each steps s [] refl) (before (fair_front w steps (s ∷ []) are))

pub restarting : NoHistoryAtFirst → HistoryByOneMore → HistoriesGrow → NoActionIsGenuine → GenuineByOneMore → ForgettingIsNoLie → RestartIsNoLie
restarting none more grow none_genuine genuine_more forgets w steps are =
    let t = told none more grow none_genuine genuine_more forgets w steps are in (t.actions, t.genuine, t.same)

-- ---- the headline

pub of_restarts : NoHistoryAtFirst → HistoryByOneMore → HistoriesGrow → RestartIsNoLie → HeadlineHolds → HeadlineOfRestarts
of_restarts none more grow no_lie headline w opening steps few are =
    let t = no_lie w steps are in (
      t.0,
      t.1,
      headline w opening t.0 few t.1,
      t.2,
      λ i history begins.
          let s = split none more grow w i (length history) t.0 in
          let first : history_by w s.first i ≡ history =
          s.history ∙ ap (take (length history)) (t.2 i ∙ begins.is) ∙ take_at history begins.rest (length history) refl in
          (s.first, record { rest = s.later; is = s.is }, first),
    )

-- ---- a correct member remembers

pub remembering : NoHistoryAtFirst → HistoryByOneMore → HistoriesGrow → PrefixIsGenuine → RestartIsNoLie → GenuineStands → ListIsAsked → CorrectMembersRemember
remembering none more grow front no_lie stands asked w steps few are i correct =
    let t = no_lie w steps are in
    record {
      each = λ before begins.
          let s = split none more grow w i (length before) t.0 in
          let first : history_by w s.first i ≡ before =
          s.history ∙ ap (take (length before)) (t.2 i ∙ begins.is) ∙ take_at before begins.rest (length before) refl in
          let genuine = front w s.first t.0 (record { rest = s.later; is = s.is }) t.1 in
          subst (λ (h : List Event). IsPrefix (list_of (group_at w i) h i) (asked_values h)) first
          (asked w (history_by w s.first) i i (stands w s.first few genuine) few correct correct);
    }
