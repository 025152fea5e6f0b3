use Rattle.std.proofs.Common.{◌≡◌, arith}
use Rattle.std.proofs.lemmas.Grind.{common_steps}
use Rattle.pay_desk.specs.Desk.{DeskSays}
use Rattle.pay_desk.specs.declared.command.TheConstants.{MOST_LINE}
use Rattle.pay_desk.proofs.Running.{to_end}
use Rattle.pay_desk.proofs.engine.run_desk.Goals as goal

pub returns-clause-text : goal.returns-clause-text
returns-clause-text g c =
    to_end (DeskSays g.T.Teller.says) (λ a line text on new said. said.on) (λ old new. new ≡ old) MOST_LINE
    c.args.desk.now c.run_lines.new.answerer (g.R.Input.remaining c.args.reader.now)
    (g.R.Input.remaining c.run_lines.new.reader) (g.W.Output.contents c.args.writer.now)
    (g.W.Output.contents c.run_lines.new.writer) c.in_ok-run_lines.field-0 c.in_ok-run_lines.ensures.text

pub returns-in_err-run_lines-clause-text : goal.returns-in_err-run_lines-clause-text
returns-in_err-run_lines-clause-text g c = grind (arith, common_steps)
