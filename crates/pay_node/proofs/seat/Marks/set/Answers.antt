use Rattle.std.proofs.Common.{◌≡◌, ℕ, List, Option, ap, ◌∙◌, rules}
use Rattle.pay_node.specs.Keeping.{mark_of}
use Rattle.pay_node.proofs.Marked.{marked, marked_as_before}
use Rattle.pay_node.proofs.seat.Marks.set.Goals as goal

pub returns-clause-set : goal.returns-clause-set
returns-clause-set c =
    let same : c.in-Ok.place ≡ c.args.place = search rules in
    marked c.put.new.places.items c.args.number c.args.place (c.in_ok-put.ensures.set ∙ same) (λ none. c.if-place.false (same ∙ none))

pub returns-clause-others : goal.returns-clause-others
returns-clause-others c = λ k other.
    marked_as_before c.self.inside.places.items c.put.new.places.items k (c.in_ok-put.ensures.others k other)
    ∙ ap (λ (marks : List (Option ℕ)). mark_of marks k) c.self.view_is
