-- What a correct member still has at a later moment, however often it starts again.
use Rattle.std.proofs.Common.{◌≡◌, ◌≢◌, inl, inr, ℕ, zero, suc, ◌<◌, ◌≤◌, leb, List, [], ◌∷◌, ◌++◌, length, take, slice_get, Some, refl, sym, ap, ◌∙◌, subst, arith, append_assoc, append-nil, length-take, take_all, take-take, le_refl}
use Rattle.std.specs.List.{All}
use Rattle.std.proofs.lemmas.Bool.{cases_Bool, cases_eq}
use Rattle.std.proofs.lemmas.Bool.Decides.{nat_tests}
use Rattle.std.proofs.lemmas.List.{take-append-le}
use Rattle.std.proofs.lemmas.List.Elements.{All-append, All-nil, All-push, All-weaker}
use Rattle.std.proofs.lemmas.Option.{slice_get_within}
use Rattle.pay_channel.specs.Prefix.{IsPrefix}
use Rattle.pay_channel.specs.History.{Event, out}
use Rattle.pay_channel.specs.SentLaws.{OutGrows}
use Rattle.pay_world.specs.Setting.{Setting, group_at, IsCorrect}
use Rattle.pay_world.specs.Actions.{Action, Asks, Brings, adds}
use Rattle.pay_laws.specs.Restarts.{Step, Happens, Restarts, history_with, history_by_steps, IsStepAmong, IsFair, AreFair}
use Rattle.pay_laws.proofs.Forgetting.{by_push, all_front}
use Rattle.pay_laws.proofs.Restarting.{steps_more, restart_here, restart_elsewhere, fair_front}
use Rattle.pay_laws.proofs.Splits.{each_by_push, prefix_trans, prefix_is_shorter, prefix_of_longer, take_is_prefix}

pub fair_push : (w : Setting) (steps : List Step) (s : Step) → AreFair w steps → IsFair w steps s → AreFair w (steps ++ s ∷ [])
fair_push w steps s are fair = record { each = each_by_push (IsFair w) steps s are.each fair }

among_more :
    (w : Setting) (k : ℕ) (old new : List Event) → IsPrefix (out (group_at w k) old) (out (group_at w k) new)
    → (s : Step) → IsStepAmong w k old s → IsStepAmong w k new s
among_more w k old new longer (Happens (Asks j v)) among = tt
among_more w k old new longer (Happens (Brings j from number body)) among = λ mine correct.
    let below = among mine correct in
    let grown = prefix_is_shorter (out (group_at w k) old) (out (group_at w k) new) longer in
    omega arith
among_more w k old new longer (Restarts j kept) among = tt

module _ (out_grows : OutGrows) (w : Setting) where
  -- ---- what was brought of a correct member is among what it has sent

  module _ (p : ℕ) (correct : IsCorrect w p) where
    brought : (steps : List Step) (d : Action) → IsFair w steps (Happens d)
        → IsStepAmong w p (history_by_steps w steps p ++ adds w p (history_by_steps w steps p) d) (Happens d)
    brought steps (Asks j v) fair = tt
    brought steps (Brings j from number body) fair = λ mine there.
        let P : ℕ → Type 0 = λ q. slice_get (out (group_at w q) (history_by_steps w steps q)) number ≡ Some body in
        let at : P p = subst P mine (fair there (subst (IsCorrect w) (sym mine) correct)) in
        let inside = slice_get_within (out (group_at w p) (history_by_steps w steps p)) number body at in
        let longer = prefix_is_shorter _ _ (out_grows (group_at w p) (history_by_steps w steps p) (adds w p (history_by_steps w steps p) (Brings j from number body))) in
        omega arith

    one_more : (steps : List Step) (s : Step) → IsFair w steps s → All (IsStepAmong w p (history_by_steps w steps p)) steps
        → All (IsStepAmong w p (history_with w p (history_by_steps w steps p) s)) (steps ++ s ∷ [])
    one_more steps (Happens d) fair all =
        let h = history_by_steps w steps p in
        let longer = h ++ adds w p h d in
        All-push (IsStepAmong w p longer) steps (Happens d)
        (All-weaker (IsStepAmong w p h) (IsStepAmong w p longer) (among_more w p h longer (out_grows (group_at w p) h (adds w p h d))) steps all)
        (brought steps d fair)
    one_more steps (Restarts k kept) fair all = elim (cases_eq k p) [
      | inl here ↦
          let h = history_by_steps w steps p in
          let Has : ℕ → Type 0 = λ q. IsCorrect w q → All (IsStepAmong w q (take kept (history_by_steps w steps q))) steps in
          let has : Has p = subst Has here fair in
          subst (λ (l : List Event). All (IsStepAmong w p l) (steps ++ Restarts k kept ∷ [])) (sym (restart_here w k p kept h here))
          (All-push (IsStepAmong w p (take kept h)) steps (Restarts k kept) (has correct) tt)
      | inr other ↦
          let h = history_by_steps w steps p in
          subst (λ (l : List Event). All (IsStepAmong w p l) (steps ++ Restarts k kept ∷ [])) (sym (restart_elsewhere w k p kept h other))
          (All-push (IsStepAmong w p h) steps (Restarts k kept) all tt)
    ]

    IsKnown : List Step → Type 0
    IsKnown steps = AreFair w steps → All (IsStepAmong w p (history_by_steps w steps p)) steps

    pub known : (steps : List Step) → AreFair w steps → All (IsStepAmong w p (history_by_steps w steps p)) steps
    unfolding IsKnown
    known = by_push IsKnown (λ are. All-nil (IsStepAmong w p (history_by_steps w [] p))) more where
      more : (steps : List Step) (s : Step) → IsKnown steps → IsKnown (steps ++ s ∷ [])
      more steps s before are =
          subst (λ (l : List Event). All (IsStepAmong w p l) (steps ++ s ∷ [])) (sym (steps_more w steps s p))
          (one_more steps s (are.each steps s [] refl) (before (fair_front w steps (s ∷ []) are)))

  -- ---- what is left of a history after later steps

  module _ (first : List Step) (p : ℕ) where
    abbrev had : List Event
    had = history_by_steps w first p

    -- So many of its events it never lost. They have all that it sent by then to correct members.
    pub record Left (later : List Step) : Type 0 where
      pub many : ℕ
      pub inside : many ≤ length had
      pub begins : IsPrefix (take many had) (history_by_steps w (first ++ later) p)
      pub among : IsCorrect w p → All (IsStepAmong w p (take many had)) first

    module _ (later : List Step) (now : List Event) (is : history_by_steps w (first ++ later) p ≡ now) (l : Left later) where
      long : length (take l.many had) ≡ l.many
      long = let few = l.inside in omega (arith, length-take l.many had)

      begins_now : IsPrefix (take l.many had) now
      begins_now = subst (λ (h : List Event). IsPrefix (take l.many had) h) is l.begins

      -- it starts again with no fewer
      kept_all : (kept : ℕ) → l.many ≤ kept → IsPrefix (take l.many had) (take kept now)
      kept_all kept many =
          let there = prefix_is_shorter (take l.many had) now begins_now in
          prefix_of_longer (take l.many had) (take kept now) now begins_now (take_is_prefix kept now)
          (omega (arith, long, length-take kept now))

      -- or with fewer
      kept_fewer : (kept : ℕ) → kept ≤ l.many → take kept now ≡ take kept had
      kept_fewer kept few =
          ap (take kept) begins_now.is
          ∙ take-append-le kept (take l.many had) begins_now.rest (omega (arith, long))
          ∙ take-take kept l.many had few

    left_more : (later : List Step) (s : Step) → Left later → IsFair w (first ++ later) s
        → (many : ℕ) × (many ≤ length had)
        × IsPrefix (take many had) (history_with w p (history_by_steps w (first ++ later) p) s)
        × (IsCorrect w p → All (IsStepAmong w p (take many had)) first)
    left_more later (Happens d) l fair =
        let h = history_by_steps w (first ++ later) p in
        (l.many, l.inside, prefix_trans (take l.many had) h (h ++ adds w p h d) l.begins (record { rest = adds w p h d; is = refl }), l.among)
    left_more later (Restarts k kept) l fair = elim (cases_eq k p) [
      | inl here ↦
          let h = history_by_steps w (first ++ later) p in
          elim (cases_Bool (leb l.many kept)) [
            | inl all ↦ (
              l.many,
              l.inside,
              subst (λ (now : List Event). IsPrefix (take l.many had) now) (sym (restart_here w k p kept h here))
                  (kept_all later h refl l kept (grind (arith, nat_tests))),
              l.among,
            )
            | inr fewer ↦
                let few : kept ≤ l.many = grind (arith, nat_tests) in
                let same = kept_fewer later h refl l kept few in
                let Has : ℕ → Type 0 = λ q. IsCorrect w q → All (IsStepAmong w q (take kept (history_by_steps w (first ++ later) q))) (first ++ later) in
                let has : Has p = subst Has here fair in (
                  kept,
                  (let inside = l.inside in omega arith),
                  subst (λ (now : List Event). IsPrefix (take kept had) now) (sym (restart_here w k p kept h here ∙ same))
                      (record { rest = []; is = sym (append-nil (take kept had)) }),
                  λ correct.
                      subst (λ (now : List Event). All (IsStepAmong w p now) first) same
                      (all_front (IsStepAmong w p (take kept h)) first later (has correct)),
                )
          ]
      | inr other ↦
          let h = history_by_steps w (first ++ later) p in (
            l.many,
            l.inside,
            subst (λ (now : List Event). IsPrefix (take l.many had) now) (sym (restart_elsewhere w k p kept h other)) l.begins,
            l.among,
          )
    ]

    IsLeft : List Step → Type 0
    IsLeft later = AreFair w (first ++ later) → Left later

    pub left : (later : List Step) → AreFair w (first ++ later) → Left later
    unfolding IsLeft
    left = by_push IsLeft none more where
      none : AreFair w (first ++ []) → Left []
      none are =
          let whole : take (length had) had ≡ had = take_all (length had) had (le_refl (length had)) in
          record {
            many = length had;
            inside = le_refl (length had);
            begins = record {
              rest = [];
              is = ap (λ (l : List Step). history_by_steps w l p) (append-nil first) ∙ sym whole ∙ sym (append-nil (take (length had) had));
            };
            among = λ correct.
                subst (λ (h : List Event). All (IsStepAmong w p h) first) (sym whole)
                (known p correct first (subst (AreFair w) (append-nil first) are));
          }

      more : (later : List Step) (s : Step) → IsLeft later → IsLeft (later ++ s ∷ [])
      more later s before are =
          let whole : (first ++ later) ++ s ∷ [] ≡ first ++ (later ++ s ∷ []) = append_assoc first later (s ∷ []) in
          let fair : AreFair w ((first ++ later) ++ s ∷ []) = subst (AreFair w) (sym whole) are in
          let l = left_more later s (before (fair_front w (first ++ later) (s ∷ []) fair)) (fair.each (first ++ later) s [] refl) in
          record {
            many = l.0;
            inside = l.1;
            begins = subst (λ (h : List Event). IsPrefix (take l.0 had) h)
                (sym (steps_more w (first ++ later) s p) ∙ ap (λ (steps : List Step). history_by_steps w steps p) whole) l.2;
            among = l.3;
          }

  -- ---- all start again, each with so many of its events

  module _ (first : List Step) (kept : ℕ → ℕ) where
    pub restarts : ℕ → List Step
    restarts zero = []
    restarts (suc n) = restarts n ++ Restarts n (kept n) ∷ []

    all_restarts : (k : ℕ) (history : List Event) (n : ℕ) → All (IsStepAmong w k history) (restarts n)
    unfolding restarts
    all_restarts k history zero = All-nil (IsStepAmong w k history)
    all_restarts k history (suc n) = All-push (IsStepAmong w k history) (restarts n) (Restarts n (kept n)) (all_restarts k history n) tt

    pub record Restarted (n : ℕ) : Type 0 where
      pub fair : AreFair w (first ++ restarts n)
      pub here : (i : ℕ) → i < n → history_by_steps w (first ++ restarts n) i ≡ take (kept i) (history_by_steps w first i)
      pub others : (i : ℕ) → n ≤ i → history_by_steps w (first ++ restarts n) i ≡ history_by_steps w first i

    module _ (fair : AreFair w first) (among : (i : ℕ) → IsCorrect w i → All (IsStepAmong w i (take (kept i) (history_by_steps w first i))) first) where
      one_restarts : (n : ℕ) → Restarted n → AreFair w ((first ++ restarts n) ++ Restarts n (kept n) ∷ [])
      one_restarts n r = fair_push w (first ++ restarts n) (Restarts n (kept n)) r.fair (λ correct.
          subst (λ (h : List Event). All (IsStepAmong w n (take (kept n) h)) (first ++ restarts n)) (sym (r.others n (le_refl n)))
          (All-append (IsStepAmong w n (take (kept n) (history_by_steps w first n))) first (restarts n) (among n correct)
          (all_restarts n (take (kept n) (history_by_steps w first n)) n)))

      pub restarted : (n : ℕ) → Restarted n
      unfolding restarts
      restarted zero = record {
        fair = subst (AreFair w) (sym (append-nil first)) fair;
        here = λ i below. absurd (omega arith);
        others = λ i above. ap (λ (l : List Step). history_by_steps w l i) (append-nil first);
      }
      restarted (suc n) =
          let r = restarted n in
          let whole : (first ++ restarts n) ++ Restarts n (kept n) ∷ [] ≡ first ++ (restarts n ++ Restarts n (kept n) ∷ []) = append_assoc first (restarts n) (Restarts n (kept n) ∷ []) in
          let by : (i : ℕ) → history_by_steps w (first ++ (restarts n ++ Restarts n (kept n) ∷ [])) i ≡ history_with w i (history_by_steps w (first ++ restarts n) i) (Restarts n (kept n)) =
          λ i. ap (λ (l : List Step). history_by_steps w l i) (sym whole) ∙ steps_more w (first ++ restarts n) (Restarts n (kept n)) i in
          let now : (i : ℕ) → List Event = λ i. history_by_steps w (first ++ restarts n) i in
          record {
            fair = subst (AreFair w) whole (one_restarts n r);
            here = λ i below. elim (cases_eq n i) [
              | inl same ↦
                  by i ∙ restart_here w n i (kept n) (now i) same ∙ ap (take (kept n)) (r.others i (omega (arith, same)))
                  ∙ ap (λ (k : ℕ). take (kept k) (history_by_steps w first i)) same
              | inr other ↦
                  by i ∙ restart_elsewhere w n i (kept n) (now i) other ∙ r.here i (earlier n i other below)
            ];
            others = λ i above. by i ∙ restart_elsewhere w n i (kept n) (now i) (λ same. omega (arith, same)) ∙ r.others i (omega arith);
          } where
            earlier : (n i : ℕ) → n ≢ i → i < suc n → i < n
            earlier n i other below = grind arith
