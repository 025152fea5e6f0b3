use Rattle.std.proofs.Common.{List, [], subst, sym, rules, ◌≡◌}
use Rattle.pay_member.specs.declared.event.HistoryEntry.{HistoryEntry}
use Rattle.pay_net.specs.Starting.{IsKeptOf}
use Rattle.pay_net.proofs.Starts.{nothing_kept}
use Rattle.pay_net.proofs.start.NodeStart.fresh.Goals as goal

pub invariant_of-result : goal.invariant_of-result
invariant_of-result c =
    let none : c.args.member.history ≡ [] = search rules in
    subst (λ (h : List HistoryEntry). IsKeptOf h c.new.result) (sym none) (subst (IsKeptOf []) (sym c.new.ensures) nothing_kept)
