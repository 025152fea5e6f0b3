use Rattle.std.proofs.Common.{◌++◌, ◌∙◌, List, ℕ, ap, sym, subst, append-nil, append_assoc, codes}
use Rattle.pay_sim.specs.Playing.{IsAfter}
use Rattle.pay_sim.specs.Words.{shown_book, member_words}
use Rattle.pay_sim.proofs.Showing.{shown_some, shown_none, on_ok}
use Rattle.pay_sim.proofs.game.Game.push_shown.Goals as goal

pub returns-in_default : goal.returns-in_default
returns-in_default g c = λ group es b.
    let b1 = subst (IsAfter group es) (sym c.self.view_is) b in
    sym (append-nil c.args.out.now.items) ∙ ap (λ (xs : List ℕ). c.args.out.now.items ++ xs) (shown_none group es _ b1 c.member.ensures.limits c.args.number (sym c.in_default.ensures.value))

pub returns : goal.returns
returns g c = on_ok c.push_word.result _ _ (λ written group es b.
    let b1 = subst (IsAfter group es) (sym c.self.view_is) b in
    let m = c.in-Some.member.now in
    written ∙ ap (λ (xs : List ℕ). xs ++ codes "\n") c.in_ok-push_book.ensures
    ∙ append_assoc c.args.out.now.items (member_words m.genesis.members c.args.number (shown_book m)) (codes "\n")
    ∙ ap (λ (xs : List ℕ). c.args.out.now.items ++ xs) (shown_some group es _ b1 c.member.ensures.limits c.args.number m (sym c.in-Some.ensures.value))) c.push_word.ensures
