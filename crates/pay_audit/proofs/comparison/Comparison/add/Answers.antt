use Rattle.std.proofs.Common.{arith, ◌≡◌, ◌∷◌, ◌++◌, [], List, ℕ, length, ap, ap₂, sym, subst, ◌∙◌}
use Rattle.std.proofs.lemmas.Bool.{eq-eqb, eqb-true}
use Rattle.std.proofs.lemmas.List.{nil_from_length}
use Rattle.std.specs.Option.{is_some}
use Rattle.std.specs.List.{list_any}
use Rattle.pay_audit.specs.Compared.{HasCompared, differences_of, lengths_of, longer}
use Rattle.pay_audit.specs.Export.{list_in}
use Rattle.pay_audit.proofs.Adding.{behind, joined, of_all_four}
use Rattle.pay_audit.proofs.comparison.Comparison.add.Goals as goal
use Rattle.pay_audit.proofs.comparison.Comparison.add.Goals.{else-is_empty-via-then-is_empty+else-not-is_any, else-is_empty-via-else-is_empty}

pub returns-then-not-is_any : goal.returns-then-not-is_any
returns-then-not-is_any c =
    let self = c.args.self in
    let none : self.differences.items ≡ [] =
    nil_from_length self.differences.items (sym self.differences.ok.0 ∙ eqb-true self.differences.len 0 (sym c.is_empty.ensures ∙ c.if-is_empty.true)) in
    let own : differences_of self.longest.items c.args.lists.now ≡ c.in_ok-differences.differences =
    ap (λ longest. differences_of longest c.args.lists.now) (sym c.as_slice.ensures.value) ∙ sym c.in_ok-differences.ensures in
    of_all_four _ _ _ _ _ c.join.result c.join.ensures.longest c.join.ensures.accounts c.join.ensures.lengths c.join.ensures.differences
    (λ comparison is accounts lengths differences exports e h same.
    (let all = joined exports self.longest.items comparison.longest.items self.lengths.items self.differences.items e h none
    (ap (list_any is_some) (ap (differences_of self.longest.items) same ∙ own) ∙ sym c.if-not-is_any.ensures)
    (λ a. is a ∙ ap (λ (ls : List (List (List ℕ))). longer (list_in self.longest.items a) (list_in ls a)) (sym same))
    (omega (arith, accounts.0, ap length same)) accounts.1 in
    subst (λ ds. HasCompared (exports ++ e ∷ []) comparison.longest.items comparison.lengths.items ds) (sym differences)
    (subst (λ ls. HasCompared (exports ++ e ∷ []) comparison.longest.items ls self.differences.items)
    (ap (λ (ls : List (List (List ℕ))). self.lengths.items ++ lengths_of ls ∷ []) same ∙ sym lengths) all)))

pub returns : goal.returns
returns c =
    let self = c.args.self in
    λ exports e h is.
    (let own : differences_of self.longest.items e.lists ≡ c.in_ok-differences.differences =
    ap₂ differences_of (sym c.as_slice.ensures.value) is ∙ sym c.in_ok-differences.ensures in
    subst (λ ds. HasCompared (exports ++ e ∷ []) self.longest.items self.lengths.items ds)
    (ap (λ d. self.differences.items ++ d ∷ []) own ∙ sym c.in_ok-push.ensures.items)
    (behind exports self.longest.items self.lengths.items self.differences.items e h
    (λ none. elim c.else-is_empty.branch [
      | else-is_empty-via-then-is_empty+else-not-is_any w ↦ ap (list_any is_some) own ∙ sym w.is_any.ensures ∙ w.if-not-is_any.false
      | else-is_empty-via-else-is_empty w ↦
          (let full = eq-eqb self.differences.len 0 (self.differences.ok.0 ∙ ap length none) in let no = w.if-is_empty.false in absurd (cc (full, no, c.is_empty.ensures)))
    ])))
