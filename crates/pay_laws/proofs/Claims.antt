-- What correct members took of a correct one is among what it has sent, whatever it lost.
use Rattle.std.proofs.Common.{◌≡◌, inl, inr, ℕ, ◌+◌, ◌<◌, ◌≤◌, Bool, true, false, cond, eqb, ◌&&◌, List, [], ◌∷◌, ◌++◌, length, take, drop, refl, sym, ap, ◌∙◌, subst, arith, append_assoc, append-nil, length-append, true≢false}
use Rattle.std.specs.List.{All}
use Rattle.std.proofs.lemmas.Bool.{cases_eq}
use Rattle.std.proofs.lemmas.List.{take-append-drop}
use Rattle.pay_channel.specs.Prefix.{IsPrefix}
use Rattle.pay_channel.specs.History.{Event, Ask, From, out}
use Rattle.pay_channel.specs.SentLaws.{OutGrows}
use Rattle.pay_channel.specs.Taken.{is_from, taken_bodies, next}
use Rattle.pay_channel.specs.TakenLaws.{NothingTakenAtFirst, TakenGrows, NextByOneMore}
use Rattle.pay_world.specs.Setting.{Setting, group_at, IsCorrect, HasFewFaulty}
use Rattle.pay_world.specs.Actions.{Action, Asks, Brings, adds, counts, history_by}
use Rattle.pay_world.specs.StandLaws.{GenuineStands}
use Rattle.pay_laws.specs.Claims.{NoClaimIsBeyond}
use Rattle.pay_laws.specs.Forgetting.{IsAmong}
use Rattle.pay_laws.specs.Restarts.{Step, Happens, Restarts, history_with, history_by_steps, IsStepAmong, AreFair, RestartIsNoLie}
use Rattle.pay_laws.proofs.Forgetting.{by_push, all_front, all_last}
use Rattle.pay_laws.proofs.Restarting.{steps_none, steps_more, restart_here, restart_elsewhere, fair_front}

-- ---- tests

and_first : (a b : Bool) → (a && b) ≡ true → a ≡ true
and_first true b is = refl
and_first false b is = is

and_second : (a b : Bool) → (a && b) ≡ true → b ≡ true
and_second true b is = is
and_second false b is = absurd (true≢false (sym is))

eq_of : (a b : ℕ) → eqb a b ≡ true → a ≡ b
eq_of a b is = grind arith

prefix_is_shorter : {X : Type 0} (xs ys : List X) → IsPrefix xs ys → length xs ≤ length ys
prefix_is_shorter xs ys begins =
    let n : length ys ≡ length xs + length begins.rest = ap length begins.is ∙ length-append xs begins.rest in omega arith

-- ---- steps whose frames of m are among what m sent by some history

module _ (none : NothingTakenAtFirst) (grows : TakenGrows) (one_more : NextByOneMore) (w : Setting) (m p : ℕ) (correct : IsCorrect w p) (sent : List Event) where
  abbrev most : ℕ
  most = length (out (group_at w m) sent)

  by_event :
      (history : List Event) (b : Bool) (e : Event) → next m history ≤ most
      → (b ≡ true → is_from m e ≡ true → next m history < most) → next m (history ++ cond b (e ∷ []) []) ≤ most
  by_event history false e few one = subst (λ (l : List Event). next m l ≤ most) (sym (append-nil history)) few
  by_event history true e few one =
      subst (λ (n : ℕ). n ≤ most) (sym (one_more m history e)) (told (is_from m e) (one refl))
    where
      told : (b : Bool) → (b ≡ true → next m history < most) → cond b (next m history + 1) (next m history) ≤ most
      told true below = let it = below refl in omega arith
      told false below = few

  by_action : (history : List Event) (d : Action) → IsAmong w m sent d → next m history ≤ most → next m (history ++ adds w p history d) ≤ most
  by_action history (Asks j v) among few =
      by_event history (eqb j p && counts w history (Asks j v)) (Ask v) few (λ b is. absurd (true≢false (sym is)))
  by_action history (Brings j from number body) among few =
      by_event history (eqb j p && counts w history (Brings j from number body)) (From from body) few (λ b is.
      let here : j ≡ p = eq_of j p (and_first (eqb j p) (counts w history (Brings j from number body)) b) in
      let whose : from ≡ m = eq_of from m is in
      let which : number ≡ next from history =
      eq_of number (next from history) (and_second _ (eqb number (next from history)) (and_second (eqb j p) _ b)) in
      let below : number < most = among whose (subst (IsCorrect w) (sym here) correct) in
      subst (λ (n : ℕ). n < most) (which ∙ ap (λ (q : ℕ). next q history) whose) below)

  by_restart : (history : List Event) (k kept : ℕ) → next m history ≤ most → next m (history_with w p history (Restarts k kept)) ≤ most
  by_restart history k kept few = elim (cases_eq k p) [
    | inl here ↦ subst (λ (l : List Event). next m l ≤ most) (sym (restart_here w k p kept history here)) fewer
    | inr other ↦ subst (λ (l : List Event). next m l ≤ most) (sym (restart_elsewhere w k p kept history other)) few
  ] where
    whole : taken_bodies m history ≡ taken_bodies m (take kept history) ++ taken_bodies m (drop kept history)
    whole = ap (taken_bodies m) (sym (take-append-drop kept history)) ∙ grows m (take kept history) (drop kept history)

    fewer : next m (take kept history) ≤ most
    fewer =
        let n : next m history ≡ next m (take kept history) + next m (drop kept history) =
        ap length whole ∙ length-append (taken_bodies m (take kept history)) (taken_bodies m (drop kept history)) in
        omega arith

  by_step : (history : List Event) (s : Step) → IsStepAmong w m sent s → next m history ≤ most → next m (history_with w p history s) ≤ most
  by_step history (Happens d) among few = by_action history d among few
  by_step history (Restarts k kept) among few = by_restart history k kept few

  IsWithin : List Step → Type 0
  IsWithin steps = All (IsStepAmong w m sent) steps → next m (history_by_steps w steps p) ≤ most

  pub within : (steps : List Step) → All (IsStepAmong w m sent) steps → next m (history_by_steps w steps p) ≤ most
  unfolding IsWithin
  within = by_push IsWithin first more where
    first : All (IsStepAmong w m sent) [] → next m (history_by_steps w [] p) ≤ most
    first all =
        let n : next m (history_by_steps w [] p) ≡ 0 = ap (next m) (steps_none w p) ∙ ap length (none m) in omega arith

    more : (steps : List Step) (s : Step) → IsWithin steps → IsWithin (steps ++ s ∷ [])
    more steps s before all =
        subst (λ (l : List Event). next m l ≤ most) (sym (steps_more w steps s p))
        (by_step (history_by_steps w steps p) s (all_last (IsStepAmong w m sent) steps s all)
        (before (all_front (IsStepAmong w m sent) steps (s ∷ []) all)))

-- ---- at any later moment

module _ (none : NothingTakenAtFirst) (grows : TakenGrows) (one_more : NextByOneMore) (out_grows : OutGrows) (no_lie : RestartIsNoLie) (stands : GenuineStands)
    (w : Setting) (few : HasFewFaulty w) (p m : ℕ) (p_correct : IsCorrect w p) (m_correct : IsCorrect w m) (until : List Step) where
  abbrev pub taken : ℕ
  taken = next m (history_by_steps w until p)

  abbrev pub sent_by : List Step → ℕ
  sent_by steps = length (out (group_at w m) (history_by_steps w steps m))

  at_once : AreFair w until → taken ≤ sent_by until
  at_once fair =
      let t = no_lie w until fair in
      let begins = (stands w t.0 few t.1).authentic p m p_correct m_correct in
      let P : List Event → List Event → Type 0 = λ mine its. next m mine ≤ length (out (group_at w m) its) in
      subst (λ (its : List Event). P (history_by_steps w until p) its) (t.2 m)
      (subst (λ (mine : List Event). P mine (history_by w t.0 m)) (t.2 p) (prefix_is_shorter _ _ begins))

  lasts : (steps : List Step) (s : Step) → AreFair w ((until ++ steps) ++ s ∷ []) → taken ≤ sent_by (until ++ steps) → taken ≤ sent_by ((until ++ steps) ++ s ∷ [])
  lasts steps s fair before =
      subst (λ (l : List Event). taken ≤ length (out (group_at w m) l)) (sym (steps_more w (until ++ steps) s m)) (go s fair)
    where
      go : (s : Step) → AreFair w ((until ++ steps) ++ s ∷ []) → taken ≤ length (out (group_at w m) (history_with w m (history_by_steps w (until ++ steps) m) s))
      go (Happens d) fair =
          let n = prefix_is_shorter _ _ (out_grows (group_at w m) (history_by_steps w (until ++ steps) m) (adds w m (history_by_steps w (until ++ steps) m) d)) in omega arith
      go (Restarts k kept) fair = elim (cases_eq k m) [
        | inl here ↦
            let Has : ℕ → Type 0 = λ q. IsCorrect w q → All (IsStepAmong w q (take kept (history_by_steps w (until ++ steps) q))) (until ++ steps) in
            let all : All (IsStepAmong w m (take kept (history_by_steps w (until ++ steps) m))) (until ++ steps) = subst Has here (fair.each (until ++ steps) (Restarts k kept) [] refl) m_correct in
            subst (λ (l : List Event). taken ≤ length (out (group_at w m) l)) (sym (restart_here w k m kept (history_by_steps w (until ++ steps) m) here))
            (within none grows one_more w m p p_correct (take kept (history_by_steps w (until ++ steps) m)) until (all_front (IsStepAmong w m (take kept (history_by_steps w (until ++ steps) m))) until steps all))
        | inr other ↦ subst (λ (l : List Event). taken ≤ length (out (group_at w m) l)) (sym (restart_elsewhere w k m kept (history_by_steps w (until ++ steps) m) other)) before
      ]

  Holds : List Step → Type 0
  Holds steps = AreFair w (until ++ steps) → taken ≤ sent_by (until ++ steps)

  pub later : (steps : List Step) → AreFair w (until ++ steps) → taken ≤ sent_by (until ++ steps)
  unfolding Holds
  later = by_push Holds first more where
    first : AreFair w (until ++ []) → taken ≤ sent_by (until ++ [])
    first fair =
        subst (λ (l : List Step). taken ≤ sent_by l) (sym (append-nil until)) (at_once (subst (AreFair w) (append-nil until) fair))

    more : (steps : List Step) (s : Step) → Holds steps → Holds (steps ++ s ∷ [])
    more steps s before fair =
        let one : AreFair w ((until ++ steps) ++ s ∷ []) = subst (AreFair w) (sym (append_assoc until steps (s ∷ []))) fair in
        subst (λ (l : List Step). taken ≤ sent_by l) (append_assoc until steps (s ∷ []))
        (lasts steps s one (before (fair_front w (until ++ steps) (s ∷ []) one)))

pub no_claim_is_beyond : NothingTakenAtFirst → TakenGrows → NextByOneMore → OutGrows → RestartIsNoLie → GenuineStands → NoClaimIsBeyond
no_claim_is_beyond none grows one_more out_grows no_lie stands w steps p m taken few fair p_correct m_correct claim =
    let AtMost : List Step → Type 0 = λ l. next m (history_by_steps w claim.until p) ≤ length (out (group_at w m) (history_by_steps w l m)) in
    subst (λ (n : ℕ). n ≤ length (out (group_at w m) (history_by_steps w steps m))) (sym claim.is)
    (subst AtMost (sym claim.moment.is)
    (later none grows one_more out_grows no_lie stands w few p m p_correct m_correct claim.until claim.moment.rest (subst (AreFair w) claim.moment.is fair)))
