use Rattle.std.proofs.Common.{◌≡◌, List, ℕ, subst}
use Rattle.pay_peers.specs.Feeding.{HasFed, want_for_all}
use Rattle.pay_peers.proofs.Feedings.{first_is}
use Rattle.pay_peers.proofs.feeding.read_peer.Goals as goal

pub returns-clause-fed : goal.returns-clause-fed
returns-clause-fed g c =
    let k = c.args.node.now.keys in
    let remaining = g.In.Input.remaining in
    let contents = g.Out.Output.contents in
    let first : c.want-first.result ≡ want_for_all k c.args.peer = first_is k c.keys.result.now c.args.peer c.want-first.result c.keys.ensures c.want-first.ensures.bytes in
    subst (λ (xs : List ℕ). HasFed c.args.node.now (record { first = xs; state = c.args.seat.now; input = remaining c.args.reader.now; before = contents c.args.writer.now }) (record { state = c.handle_stream.new.state; left = remaining c.handle_stream.new.reader; after = contents c.handle_stream.new.writer }) c.handle_stream.result) first c.handle_stream.ensures.handled
