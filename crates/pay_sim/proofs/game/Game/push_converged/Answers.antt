use Rattle.std.proofs.Common.{sym, subst, codes, append-nil, []}
use Rattle.pay_sim.specs.Script.{with_feed}
use Rattle.pay_sim.specs.Playing.{IsAfter}
use Rattle.pay_sim.proofs.Showing.{converged, not_converged, on_ok}
use Rattle.pay_sim.proofs.game.Game.push_converged.Goals as goal

pub returns-then-all_taken : goal.returns-then-all_taken
returns-then-all_taken g c = on_ok c.push_word.result _ _ (λ written group es b.
    let b1 = subst (IsAfter group es) (sym c.self.view_is) b in
    (with_feed (codes "converged"), converged group es _ b1 c.all_taken.result c.all_taken.ensures.exact c.if-all_taken.true, written)) c.push_word.ensures

pub returns-else-all_taken : goal.returns-else-all_taken
returns-else-all_taken g c = λ group es b.
    let b1 = subst (IsAfter group es) (sym c.self.view_is) b in
    ([], not_converged group es _ b1 c.all_taken.result c.all_taken.ensures.exact c.if-all_taken.false, sym (append-nil c.args.out.now.items))
