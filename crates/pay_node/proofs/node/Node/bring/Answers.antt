use Rattle.std.proofs.Common.{ℕ, sym, subst}
use Rattle.std.specs.Prelude.{IfSome}
use Rattle.pay_link.specs.Keys.{IsPeer, KeyFields}
use Rattle.pay_node.proofs.node.Node.bring.Goals as goal

pub with_want-requires : goal.with_want-requires
with_want-requires g c =
    let IsSenders : KeyFields → ℕ → Type 0 = λ keys from. IfSome c.in_ok-received.received.next (λ _. IsPeer keys from) in
    subst (λ (keys : KeyFields). IsSenders keys c.from-from.result) (sym c.keys.ensures)
    (subst (IsSenders c.args.self.now.keys) (sym c.from-from.ensures.value) c.in_ok-received.ensures.peer)
