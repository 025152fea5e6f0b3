-- Histories by actions: one action more, more actions, and genuine actions make histories that stand.
use Rattle.std.proofs.Common.{◌≡◌, ◌↔◌, ℕ, zero, suc, List, [], ◌∷◌, ◌++◌, length, take, drop, slice_get, Some, refl, sym, ap, ◌∙◌, subst, append_assoc, append-nil}
use Rattle.std.proofs.lemmas.List.{same_from_push, take_at}
use Rattle.pay_channel.specs.Prefix.{IsPrefix}
use Rattle.pay_channel.specs.History.{Event}
use Rattle.pay_world.specs.Setting.{Setting, HasFewFaulty}
use Rattle.pay_world.specs.Actions.{Action, adds, history_after, history_by}
use Rattle.pay_world.specs.Genuine.{IsGenuine, AreGenuine, AreGenuineByPlace}
use Rattle.pay_world.specs.Stands.{Stands, Grow}
use Rattle.pay_world.specs.Below.{Below}
use Rattle.pay_world.proofs.Lists.{none_some, some_same, by_push}
use Rattle.pay_world.proofs.StandInduction.{stands_at_first}
use Rattle.pay_world.proofs.Taking.{stands_by_action}

-- ---- one action more, and more actions

after_more :
    (w : Setting) (i : ℕ) (history : List Event) (actions more : List Action)
    → history_after w i history (actions ++ more) ≡ history_after w i (history_after w i history actions) more
after_more w i history [] more = refl
after_more w i history (d ∷ actions) more = after_more w i (history ++ adds w i history d) actions more

after_begins : (w : Setting) (i : ℕ) (history : List Event) (actions : List Action) → IsPrefix history (history_after w i history actions)
after_begins w i history [] = record { rest = []; is = sym (append-nil history) }
after_begins w i history (d ∷ actions) =
    let later = after_begins w i (history ++ adds w i history d) actions in
    record { rest = adds w i history d ++ later.rest; is = later.is ∙ append_assoc history (adds w i history d) later.rest }

pub history_by_one_more :
    (w : Setting) (actions : List Action) (d : Action) (i : ℕ)
    → history_by w (actions ++ d ∷ []) i ≡ history_by w actions i ++ adds w i (history_by w actions i) d
unfolding history_by
history_by_one_more w actions d i = after_more w i [] actions (d ∷ [])

pub no_history_at_first : (w : Setting) (i : ℕ) → history_by w [] i ≡ []
unfolding history_by
no_history_at_first w i = refl

pub histories_grow : (w : Setting) (actions more : List Action) → Grow (history_by w actions) (history_by w (actions ++ more))
unfolding history_by
histories_grow w actions more = record { each = λ i. go i } where
  go : (i : ℕ) → IsPrefix (history_after w i [] actions) (history_after w i [] (actions ++ more))
  go i =
      let later = after_begins w i (history_after w i [] actions) more in
      record { rest = later.rest; is = after_more w i [] actions more ∙ later.is }

pub prefixes_grow : (w : Setting) (one actions : List Action) → IsPrefix one actions → Grow (history_by w one) (history_by w actions)
prefixes_grow w one actions p = subst (λ l. Grow (history_by w one) (history_by w l)) (sym p.is) (histories_grow w one p.rest)

-- ---- genuine actions make histories that stand

pub genuine_front : (w : Setting) (actions more : List Action) → AreGenuine w (actions ++ more) → AreGenuine w actions
genuine_front w actions more are = record {
  each = λ before d after is.
      are.each before d (after ++ more) (ap (λ l. l ++ more) is ∙ append_assoc before (d ∷ after) more);
}

pub genuine_prefix : (w : Setting) (one actions : List Action) → IsPrefix one actions → AreGenuine w actions → AreGenuine w one
genuine_prefix w one actions p are = genuine_front w one p.rest (subst (AreGenuine w) p.is are)

-- one genuine action more
stands_more :
    (below : Below) (w : Setting) (few : HasFewFaulty w) (actions : List Action) (d : Action)
    → IsGenuine w actions d → Stands w (history_by w actions) → Stands w (history_by w (actions ++ d ∷ []))
stands_more below w few actions d genuine stands =
    stands_by_action below w few (history_by w actions) (history_by w (actions ++ d ∷ [])) d genuine (history_by_one_more w actions d) stands

Made : Setting → List Action → Type 0
Made w actions = AreGenuine w actions → Stands w (history_by w actions)

pub genuine_stands : (below : Below) (w : Setting) (actions : List Action) → HasFewFaulty w → AreGenuine w actions → Stands w (history_by w actions)
unfolding Made
genuine_stands below w actions few = by_push (Made w) first next actions where
  first : AreGenuine w [] → Stands w (history_by w [])
  first are = subst (Stands w) (λ t i. sym (no_history_at_first w i) t) (stands_at_first below w)

  next : (before : List Action) (d : Action) → (AreGenuine w before → Stands w (history_by w before)) → AreGenuine w (before ++ d ∷ []) → Stands w (history_by w (before ++ d ∷ []))
  next before d made are = stands_more below w few before d (are.each before d [] refl) (made (genuine_front w before (d ∷ []) are))

-- ---- genuine actions, one more and by place

One : Setting → List Action → Action → List Action → Type 0
One w actions d after = (before : List Action) (x : Action) → actions ++ d ∷ [] ≡ before ++ x ∷ after → IsGenuine w before x

pub genuine_by_one_more : (w : Setting) (actions : List Action) (d : Action) → AreGenuine w actions → IsGenuine w actions d → AreGenuine w (actions ++ d ∷ [])
unfolding One
genuine_by_one_more w actions d are genuine = record { each = λ before x after is. by_push (One w actions d) last earlier after before x is } where
  last : (before : List Action) (x : Action) → actions ++ d ∷ [] ≡ before ++ x ∷ [] → IsGenuine w before x
  last before x is =
      let same = same_from_push actions before d x is in
      subst (λ y. IsGenuine w before y) same.1 (subst (λ l. IsGenuine w l d) same.0 genuine)

  earlier : (after : List Action) (y : Action) → One w actions d after → (before : List Action) (x : Action) → actions ++ d ∷ [] ≡ before ++ x ∷ (after ++ y ∷ []) → IsGenuine w before x
  earlier after y before_it before x is =
      are.each before x after (same_from_push actions (before ++ x ∷ after) d y (is ∙ sym (append_assoc before (x ∷ after) (y ∷ [])))).0

pub no_action_is_genuine : (w : Setting) → AreGenuine w []
no_action_is_genuine w = record { each = λ before d after is. absurd (nothing before d after is) } where
  nothing : (before : List Action) (d : Action) (after : List Action) → [] ≡ before ++ d ∷ after → ⊥
  nothing [] d after is = cc
  nothing (x ∷ before) d after is = cc

split_at : (actions : List Action) (k : ℕ) (d : Action) → slice_get actions k ≡ Some d → actions ≡ take k actions ++ d ∷ drop (suc k) actions
split_at [] k d is = absurd (none_some d is)
split_at (x ∷ actions) zero d is = ap (λ y. y ∷ actions) (some_same x d is)
split_at (x ∷ actions) (suc k) d is = ap (λ l. x ∷ l) (split_at actions k d is)

at_split : (before : List Action) (d : Action) (after : List Action) → slice_get (before ++ d ∷ after) (length before) ≡ Some d
at_split [] d after = refl
at_split (x ∷ before) d after = at_split before d after

pub genuine_by_place : (w : Setting) (actions : List Action) → AreGenuine w actions ↔ AreGenuineByPlace w actions
genuine_by_place w actions = (places, splits) where
  places : AreGenuine w actions → AreGenuineByPlace w actions
  places are k d is = are.each (take k actions) d (drop (suc k) actions) (split_at actions k d is)

  splits : AreGenuineByPlace w actions → AreGenuine w actions
  splits at = record { each = each } where
    each : (before : List Action) (d : Action) (after : List Action) → actions ≡ before ++ d ∷ after → IsGenuine w before d
    each before d after is =
        subst (λ l. IsGenuine w l d) (ap (take (length before)) is ∙ take_at before (d ∷ after) (length before) refl)
        (at (length before) d (ap (λ l. slice_get l (length before)) is ∙ at_split before d after))
