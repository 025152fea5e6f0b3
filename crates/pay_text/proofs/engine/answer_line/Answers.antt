use Rattle.std.proofs.Common.{◌≡◌, ◌++◌, Err, rules, arith}
use Rattle.std.proofs.lemmas.Grind.{common_steps}
use Rattle.pay_frame.specs.Device.{WroteBeginning}
use Rattle.pay_frame.specs.declared.device.StreamFault.TheVariants.{Memory, Write}
use Rattle.pay_text.specs.Answers.{text_bytes}
use Rattle.pay_text.specs.Outbox.{Puts}
use Rattle.pay_text.proofs.Waiting.{one_put, one_refused, one_broken_off}
use Rattle.pay_text.proofs.engine.answer_line.Goals as goal

pub returns-in_err-text-clause-goes : goal.returns-in_err-text-clause-goes
returns-in_err-text-clause-goes g c = λ left.
    let memory : c.from_residual.result ≡ Err Memory = search rules in
    rw memory (one_refused g.A.Answerer.says g.A.Answerer.gives_up c.args.answerer.now c.answer.new.self _ left _ _ c.in_err-text.ensures.err)

pub returns-in_err-put-clause-goes : goal.returns-in_err-put-clause-goes
returns-in_err-put-clause-goes g c = λ left.
    let says = g.A.Answerer.says in
    let answer = c.in_ok-text.field-0 in
    let said : says c.args.answerer.now c.args.cutter.now.line (text_bytes answer.text) answer.goes_on c.answer.new.self = rw c.line.ensures at c.in_ok-text.ensures.ok in
    let wrote : WroteBeginning (g.W.Output.contents c.args.writer.now) (g.W.Output.contents c.put.new.writer) (c.args.outbox.now ++ text_bytes answer.text) = rw c.as_bytes.ensures at c.in_err-put.ensures.beginning in
    let failed : c.from_residual-in_err-put.result ≡ Err Write = search rules in
    rw failed (one_broken_off says g.A.Answerer.gives_up c.args.answerer.now c.answer.new.self c.args.cutter.now.line left (text_bytes answer.text) answer.goes_on _ _ c.args.outbox.now c.put.new.self said wrote)

pub returns-clause-goes : goal.returns-clause-goes
returns-clause-goes g c = λ left.
    let says = g.A.Answerer.says in
    let answer = c.in_ok-text.field-0 in
    let said : says c.args.answerer.now c.args.cutter.now.line (text_bytes answer.text) answer.goes_on c.answer.new.self = rw c.line.ensures at c.in_ok-text.ensures.ok in
    let puts : Puts (g.W.Output.contents c.args.writer.now) (g.W.Output.contents c.put.new.writer) c.args.outbox.now c.put.new.self (text_bytes answer.text) = rw c.as_bytes.ensures at c.in_ok-put.ensures.ok in
    one_put says g.A.Answerer.gives_up c.args.answerer.now c.answer.new.self c.args.cutter.now.line left (text_bytes answer.text) answer.goes_on _ _ _ _ said puts

pub returns-clause-cutter : goal.returns-clause-cutter
returns-clause-cutter g c = grind (arith, common_steps)
