-- What a member finds that has forgotten what it sent.
use Rattle.std.proofs.Common.{◌≡◌, ◌≢◌, ◌⊎◌, inl, inr, ℕ, zero, suc, ◌<◌, ◌≤◌, true, List, [], ◌∷◌, length, slice_get, None, Some, refl, sym, ap, ◌∙◌, arith, ltb}
use Rattle.std.proofs.lemmas.Bool.{cases_Bool}
use Rattle.std.proofs.lemmas.Bool.Decides.{nat_tests}
use Rattle.pay_channel.specs.History.{Event, delivered_at, list_of}
use Rattle.pay_channel.specs.Asked.{asked_values}
use Rattle.pay_channel.specs.ListLaws.{AreKnown, PlaceIsDelivered}
use Rattle.pay_member.specs.Remembering.{HasForgotten}
use Rattle.pay_world.specs.Setting.{Setting, group_at, IsCorrect, HasFewFaulty}
use Rattle.pay_world.specs.Stands.{Stands}
use Rattle.pay_world.specs.Convergence.{AllTaken, HasHeardAll}
use Rattle.pay_world.specs.Below.{Below}
use Rattle.pay_world.proofs.Lists.{none_some, some_same, there, prefix_same}
use Rattle.pay_world.proofs.Converging.{listener}

-- a place of its own list is the evidence
evidence :
    (w : Setting) (history : List Event) (i s : ℕ) (v : List ℕ) → slice_get (list_of (group_at w i) history i) s ≡ Some v
    → slice_get (asked_values history) s ≢ Some v → HasForgotten (group_at w i) history
evidence w history i s v is unasked = record {
  before = history;
  earlier = prefix_same history history refl;
  seq = s;
  value = v;
  listed = is;
  unasked = unasked;
}

get_some : {X : Type 0} (xs : List X) (k : ℕ) → k < length xs → slice_get xs k ≢ None
get_some [] k below is = absurd (omega arith)
get_some (x ∷ xs) zero below is = none_some x (sym is)
get_some (x ∷ xs) (suc k) below is = get_some xs k (omega arith) is

module _ (below : Below) (places : PlaceIsDelivered) (w : Setting) (histories : ℕ → List Event) (stands : Stands w histories) (few : HasFewFaulty w)
    (all : AllTaken w histories) (i j : ℕ) (correct : IsCorrect w j) (bad : w.faulty i ≡ true) (heard : HasHeardAll w histories i) where
  delivers : (s : ℕ) (v : List ℕ) → delivered_at (group_at w j) (histories j) i s ≡ Some v → delivered_at (group_at w i) (histories i) i s ≡ Some v
  delivers s v is = listener below w histories stands few all i j i s v correct bad heard is

  pub listed_is_noticed :
      (s : ℕ) (v : List ℕ) → slice_get (list_of (group_at w j) (histories j) i) s ≡ Some v → slice_get (asked_values (histories i)) s ≢ Some v
      → HasForgotten (group_at w i) (histories i)
  listed_is_noticed s v is unasked =
      let place = (places (group_at w j) (histories j) i s v).0 is in
      evidence w (histories i) i s v ((places (group_at w i) (histories i) i s v).1 (place.0, place.1, known place.2, delivers s v place.3)) unasked where
        known : AreKnown (delivered_at (group_at w j) (histories j) i) s → AreKnown (delivered_at (group_at w i) (histories i) i) s
        known are t before none =
            let u = there (delivered_at (group_at w j) (histories j) i t) (are t before) in
            none_some u.0 (sym none ∙ delivers t u.0 u.1)

  pub delivered_is_noticed :
      (s : ℕ) (v : List ℕ) → delivered_at (group_at w j) (histories j) i s ≡ Some v → slice_get (asked_values (histories i)) s ≢ Some v
      → HasForgotten (group_at w i) (histories i) ⊎ (length (list_of (group_at w i) (histories i) i) ≤ s)
  delivered_is_noticed s v is unasked = elim (cases_Bool (ltb s (length (list_of (group_at w i) (histories i) i)))) [
    | inl inside ↦ inl (listed (grind (arith, nat_tests)))
    | inr past ↦ inr (grind (arith, nat_tests))
  ] where
    listed : s < length (list_of (group_at w i) (histories i) i) → HasForgotten (group_at w i) (histories i)
    listed inside =
        let u = there (slice_get (list_of (group_at w i) (histories i) i) s) (get_some (list_of (group_at w i) (histories i) i) s inside) in
        let place = (places (group_at w i) (histories i) i s u.0).0 u.1 in
        let same : u.0 ≡ v = some_same u.0 v (sym place.3 ∙ delivers s v is) in
        evidence w (histories i) i s v (u.1 ∙ ap Some same) unasked
