use Rattle.std.proofs.Common.{Err, arith}
use Rattle.std.proofs.lemmas.Grind.{common_steps}
use Rattle.pay_net.specs.Desks.{WritesClient, desk_streams}
use Rattle.pay_net.proofs.DeskClients.{broken_off, to_end}
use Rattle.pay_net.proofs.clients.serve_client.Goals as goal

pub returns-clause-text : goal.returns-clause-text
returns-clause-text g c =
    to_end g.S.FirstDesk.first _ _
    (g.In.Input.remaining c.args.reader.now) (g.In.Input.remaining c.run_lines.new.reader)
    (g.Out.Output.contents c.args.writer.now) (g.Out.Output.contents c.run_lines.new.writer)
    c.in_ok-run_lines.field-0 c.in_ok-run_lines.ensures.text

pub returns-in_err-run_lines-clause-text : goal.returns-in_err-run_lines-clause-text
returns-in_err-run_lines-clause-text g c =
    let ended : WritesClient g.S.FirstDesk.first
    (desk_streams (g.In.Input.remaining c.args.reader.now) (g.In.Input.remaining c.run_lines.new.reader)
    (g.Out.Output.contents c.args.writer.now) (g.Out.Output.contents c.run_lines.new.writer)) (Err c.in_err-run_lines.field-0.0) =
    broken_off g.S.FirstDesk.first _ _
    (g.In.Input.remaining c.args.reader.now) (g.In.Input.remaining c.run_lines.new.reader)
    (g.Out.Output.contents c.args.writer.now) (g.Out.Output.contents c.run_lines.new.writer)
    c.in_err-run_lines.field-0.0 c.in_err-run_lines.ensures.text in
    grind (arith, common_steps)
