use Rattle.std.proofs.Common.{◌≡◌, ◌-◌, List, ℕ, [], Err, subst, rules}
use Rattle.pay_frame.specs.declared.engine.EngineFault.TheVariants.{Memory}
use Rattle.pay_frame.specs.Handling.{Start}
use Rattle.pay_peers.specs.declared.feeding.PeerReader.{PeerReader}
use Rattle.pay_peers.specs.Ahead.{HasFedAhead, wants}
use Rattle.pay_peers.specs.Window.{first_count, row_of}
use Rattle.pay_peers.proofs.Fed.{first_is, nothing_fed}
use Rattle.pay_peers.proofs.reading_ahead.read_ahead.Goals as goal

pub returns-in_err-ask_for-clause-fed : goal.returns-in_err-ask_for-clause-fed
returns-in_err-ask_for-clause-fed g c =
    let n = c.args.context.now.node.now in
    let ahead = c.args.ahead.count in
    let from = c.args.asking.now.window.due in
    let remaining = g.In.Input.remaining in
    let contents = g.Out.Output.contents in
    let start : Start PeerReader = record { first = wants n.keys c.args.peer (row_of from (first_count ahead)); state = c.args.asking.now; input = remaining c.args.reader.now; before = contents c.args.writer.now } in
    let memory : c.from_residual.result ≡ Err Memory = search rules in
    rw memory (nothing_fed n c.args.peer ahead start (c.stream_grows.ensures.nothing []))

pub returns-clause-fed : goal.returns-clause-fed
returns-clause-fed g c =
    let k = c.args.context.now.node.now.keys in
    let w = c.args.asking.now.window in
    let remaining = g.In.Input.remaining in
    let contents = g.Out.Output.contents in
    let HasFed : List ℕ → Type 0 = λ first. HasFedAhead c.args.context.now.node.now c.args.peer c.args.ahead.count (record { first = first; state = c.args.asking.now; input = remaining c.args.reader.now; before = contents c.args.writer.now }) (record { state = c.handle_stream.new.state; left = remaining c.handle_stream.new.reader; after = contents c.handle_stream.new.writer }) c.handle_stream.result in
    let text : c.deref.result.now ≡ wants c.keys.result.now c.args.peer (row_of w.due (w.asked - w.due)) = search rules in
    let first : c.deref.result.now ≡ wants k c.args.peer (row_of w.due (first_count c.args.ahead.count)) = first_is k c.keys.result.now c.args.peer c.args.ahead.count w c.deref.result.now c.keys.ensures c.requires.begun text in
    subst HasFed first c.handle_stream.ensures.handled
