use Rattle.std.proofs.Common.{◌≡◌, ◌++◌, ◌∷◌, [], ℕ, List, Some, None, length, ap, sym, ◌∙◌, subst, arith}
use Rattle.std.specs.Prelude.{slice_get}
use Rattle.std.proofs.lemmas.List.{length_push, get_or_push}
use Rattle.std.proofs.lemmas.Option.{slice_get-get_or}
use Rattle.pay_echo.specs.Masks.{values_of}
use Rattle.pay_echo.specs.Plain.{AreDistinct, IsPlaceOf}
use Rattle.pay_echo.specs.declared.candidate.Candidate.{Candidate}
use Rattle.pay_echo.proofs.Candidates.{length-values, values-more, distinct-more}
use Rattle.pay_echo.proofs.candidate.keep.Goals as goal

pub returns-clause-distinct : goal.returns-clause-distinct
returns-clause-distinct c =
    let before = c.args.candidates.now.items in
    let v = c.args.value.now in
    let absent = subst (λ (cs : List Candidate). IsPlaceOf v (values_of cs) None) c.deref.ensures.value c.in_default.ensures in
    let values = ap values_of c.in_ok-push.ensures.items ∙ values-more before c.in_ok-value.value ∙ ap (λ (w : List ℕ). values_of before ++ w ∷ []) c.in_ok-value.ensures.value in
    subst AreDistinct (sym values) (distinct-more (values_of before) v c.requires absent)

pub returns-clause-place : goal.returns-clause-place
returns-clause-place c =
    let before = c.args.candidates.now.items in
    let v = c.args.value.now in
    let none : List ℕ = [] in
    let values = ap values_of c.in_ok-push.ensures.items ∙ values-more before c.in_ok-value.value ∙ ap (λ (w : List ℕ). values_of before ++ w ∷ []) c.in_ok-value.ensures.value in
    let place : length (values_of before) ≡ c.len-place.result = omega (arith, length-values before, c.len-place.ensures, c.args.candidates.now.ok) in
    let longer = length_push (values_of before) v in
    ap (λ (vs : List (List ℕ)). slice_get vs c.len-place.result) values
    ∙ slice_get-get_or (values_of before ++ v ∷ []) c.len-place.result none (omega (arith, place, longer))
    ∙ ap (λ (w : List ℕ). Some w) (get_or_push (values_of before) v none c.len-place.result place)
