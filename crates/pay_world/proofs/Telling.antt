-- The test for a forged frame tells exactly those that aren't genuine.
use Rattle.std.proofs.Common.{◌≡◌, ⊎_elim, ◌↔◌, ℕ, Bool, true, false, not, eqb, ltb, ◌&&◌, List, slice_get, Option, None, Some, bytes_eq, refl, sym, ap, ◌∙◌, arith, lt-ltb, ltb-true, eq-eqb, eqb-true, [], ◌∷◌, ◌++◌, subst, append_assoc, append-nil}
use Rattle.std.proofs.lemmas.Bool.{cases_Bool, and_parts, and_cases, and_left, and_right, and_from, both_ways, not-true, not-false, false≢true}
use Rattle.std.proofs.lemmas.Slice.Eq.{bytes_eq-Decides}
use Rattle.pay_frame.specs.declared.body.Kind.{Kind}
use Rattle.pay_frame.specs.declared.body.Kind.TheVariants.{Send, Echo, Ready, Want}
use Rattle.pay_frame.specs.Frame.{BodyFields, code_of}
use Rattle.pay_channel.specs.History.{Event, out}
use Rattle.pay_world.specs.Setting.{Setting, group_at, IsCorrect, is_correct}
use Rattle.pay_world.specs.Actions.{Action, Asks, Brings, history_by}
use Rattle.pay_world.specs.Genuine.{IsGenuineIn, AreGenuine, is_same_body, is_forged, is_forged_in, none_forged}
use Rattle.pay_world.proofs.Happening.{genuine_by_one_more, no_action_is_genuine}

pub correct_is_told : (w : Setting) (i : ℕ) → (is_correct w i ≡ true) ↔ IsCorrect w i
correct_is_told w i = (there, back) where
  there : is_correct w i ≡ true → IsCorrect w i
  there is =
      let both = and_parts (ltb i w.members) (not (w.faulty i)) is in
      record { member = ltb-true i w.members both.0; honest = not-true (w.faulty i) both.1 }

  back : IsCorrect w i → is_correct w i ≡ true
  back correct = and_from (ltb i w.members) (not (w.faulty i)) (lt-ltb i w.members correct.member) (ap not correct.honest)

same_kind : (j k : Kind) → code_of j ≡ code_of k → j ≡ k
same_kind Send Send e = refl
same_kind Send Echo e = absurd (omega arith)
same_kind Send Ready e = absurd (omega arith)
same_kind Send Want e = absurd (omega arith)
same_kind Echo Send e = absurd (omega arith)
same_kind Echo Echo e = refl
same_kind Echo Ready e = absurd (omega arith)
same_kind Echo Want e = absurd (omega arith)
same_kind Ready Send e = absurd (omega arith)
same_kind Ready Echo e = absurd (omega arith)
same_kind Ready Ready e = refl
same_kind Ready Want e = absurd (omega arith)
same_kind Want Send e = absurd (omega arith)
same_kind Want Echo e = absurd (omega arith)
same_kind Want Ready e = absurd (omega arith)
same_kind Want Want e = refl

body_is_told : (body : BodyFields) (o : Option BodyFields) → is_same_body body o ≡ true → o ≡ Some body
body_is_told body None is = absurd (false≢true is)
body_is_told body (Some c) is =
    let value = and_parts (eqb (code_of c.kind) (code_of body.kind) && eqb c.owner body.owner && eqb c.seq body.seq) (bytes_eq c.value body.value) is in
    let seq = and_parts (eqb (code_of c.kind) (code_of body.kind) && eqb c.owner body.owner) (eqb c.seq body.seq) value.0 in
    let owner = and_parts (eqb (code_of c.kind) (code_of body.kind)) (eqb c.owner body.owner) seq.0 in
    let kinds = same_kind c.kind body.kind (eqb-true (code_of c.kind) (code_of body.kind) owner.0) in
    let owners = eqb-true c.owner body.owner owner.1 in
    let seqs = eqb-true c.seq body.seq seq.1 in
    let values = (bytes_eq-Decides c.value body.value).0 value.1 in
    λ i. Some (record { kind = kinds i; owner = owners i; seq = seqs i; value = values i })

its_body : (body : BodyFields) → is_same_body body (Some body) ≡ true
its_body body =
    and_from (eqb (code_of body.kind) (code_of body.kind) && eqb body.owner body.owner && eqb body.seq body.seq) (bytes_eq body.value body.value)
    (and_from (eqb (code_of body.kind) (code_of body.kind) && eqb body.owner body.owner) (eqb body.seq body.seq)
    (and_from (eqb (code_of body.kind) (code_of body.kind)) (eqb body.owner body.owner) (eq-eqb (code_of body.kind) (code_of body.kind) refl) (eq-eqb body.owner body.owner refl))
    (eq-eqb body.seq body.seq refl))
    ((bytes_eq-Decides body.value body.value).1 refl)

pub forged_is_told : (w : Setting) (histories : ℕ → List Event) (d : Action) → (is_forged_in w histories d ≡ false) ↔ IsGenuineIn w histories d
forged_is_told w histories (Asks k v) = ((λ is. tt), (λ genuine. refl))
forged_is_told w histories (Brings k from number body) = (there, back) where
  place : Option BodyFields
  place = slice_get (out (group_at w from) (histories from)) number

  correct : Bool
  correct = is_correct w k && is_correct w from

  there : (correct && not (is_same_body body place)) ≡ false → IsCorrect w k → IsCorrect w from → place ≡ Some body
  there is ck cf =
      let both = and_from (is_correct w k) (is_correct w from) ((correct_is_told w k).1 ck) ((correct_is_told w from).1 cf) in
      ⊎_elim
      (λ wrong. absurd (both_ways correct wrong both))
      (λ found. body_is_told body place (not-false (is_same_body body place) found))
      (and_cases correct (not (is_same_body body place)) is)

  back : (IsCorrect w k → IsCorrect w from → place ≡ Some body) → (correct && not (is_same_body body place)) ≡ false
  back genuine =
      ⊎_elim
      (λ both.
      let parts = and_parts (is_correct w k) (is_correct w from) both in
      let is = genuine ((correct_is_told w k).0 parts.0) ((correct_is_told w from).0 parts.1) in
      and_right correct (not (is_same_body body place)) (ap (λ o. not (is_same_body body o)) is ∙ ap not (its_body body)))
      (λ wrong. and_left correct (not (is_same_body body place)) wrong)
      (cases_Bool correct)

-- ---- all of a list

genuine_so_far :
    (w : Setting) (before actions : List Action)
    → AreGenuine w before → none_forged w before actions ≡ true → AreGenuine w (before ++ actions)
genuine_so_far w before [] are none = subst (AreGenuine w) (sym (append-nil before)) are
genuine_so_far w before (d ∷ actions) are none =
    let both = and_parts (not (is_forged w before d)) (none_forged w (before ++ d ∷ []) actions) none in
    let genuine = (forged_is_told w (history_by w before) d).0 (not-true (is_forged w before d) both.0) in
    subst (AreGenuine w) (append_assoc before (d ∷ []) actions)
    (genuine_so_far w (before ++ d ∷ []) actions (genuine_by_one_more w before d are genuine) both.1)

none_from_here :
    (w : Setting) (before actions : List Action) → AreGenuine w (before ++ actions) → none_forged w before actions ≡ true
none_from_here w before [] are = refl
none_from_here w before (d ∷ actions) are =
    and_from (not (is_forged w before d)) (none_forged w (before ++ d ∷ []) actions)
    (ap not ((forged_is_told w (history_by w before) d).1 (are.each before d actions refl)))
    (none_from_here w (before ++ d ∷ []) actions (subst (AreGenuine w) (sym (append_assoc before (d ∷ []) actions)) are))

pub none_forged_is_told : (w : Setting) (actions : List Action) → (none_forged w [] actions ≡ true) ↔ AreGenuine w actions
none_forged_is_told w actions = (genuine_so_far w [] actions (no_action_is_genuine w), none_from_here w [] actions)
