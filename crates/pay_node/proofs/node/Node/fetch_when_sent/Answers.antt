use Rattle.std.proofs.Common.{rules}
use Rattle.pay_node.specs.Nodes.{IsOwn}
use Rattle.pay_node.proofs.Kept.{fetched_by, has_fetched}
use Rattle.pay_node.proofs.node.Node.fetch_when_sent.Goals as goal

pub returns : goal.returns
returns g c =
    let own : IsOwn c.args.self.now c.member.result.now = search rules in
    has_fetched _ _ _ _ _ (fetched_by c.args.self.now c.member.result.now _ _ _ _ own c.note_once.ensures.legal c.note_once.ensures.noted)
