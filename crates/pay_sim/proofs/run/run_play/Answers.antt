use Rattle.std.proofs.Common.{◌≡◌, true, false, Ok, Err, sym, subst, ap, ◌∙◌, rules}
use Rattle.pay_sim.specs.declared.run.SimEnd.{SimEnd}
use Rattle.pay_sim.specs.Script.{WritesRun, end_of}
use Rattle.pay_sim.proofs.Whole.{breaks, breaks_empty, ends, ends_empty}
use Rattle.pay_sim.proofs.run.run_play.Goals as goal

true_false : true ≡ false → ⊥
true_false same = cc

pub returns-in_err-run_lines-clause-text : goal.returns-in_err-run_lines-clause-text
returns-in_err-run_lines-clause-text g c =
    let remaining = g.R.Input.remaining in
    let contents = g.W.Output.contents in
    let same : c.from_residual.result ≡ Err c.in_err-run_lines.field-0.0 = search rules in
    rw same (breaks c.args.play.now c.run_lines.new.answerer (remaining c.args.reader.now) (remaining c.run_lines.new.reader) (contents c.args.writer.now) (contents c.run_lines.new.writer)
    c.requires c.in_err-run_lines.field-0.0 c.in_err-run_lines.ensures.text)

pub returns-then-not-is_empty-clause-text : goal.returns-then-not-is_empty-clause-text
returns-then-not-is_empty-clause-text g c =
    let remaining = g.R.Input.remaining in
    let contents = g.W.Output.contents in
    let q = c.run_lines.new.answerer in
    let ended : end_of q.stop ≡ c.end_of.result = sym (c.end_of.ensures ∙ ap end_of c.stop.ensures) in
    subst (λ (e : SimEnd). WritesRun (remaining c.args.reader.now) (remaining c.run_lines.new.reader) (contents c.args.writer.now) (contents c.run_lines.new.writer) (Ok e)) ended
    (ends c.args.play.now q (remaining c.args.reader.now) (remaining c.run_lines.new.reader) (contents c.args.writer.now) (contents c.run_lines.new.writer) c.requires
    c.in_ok-run_lines.field-0 c.in_ok-run_lines.ensures.text (λ none. true_false (sym (c.is_empty.ensures.1 none) ∙ c.if-not-is_empty.true)))

pub returns-in_err-write_no_line-clause-text : goal.returns-in_err-write_no_line-clause-text
returns-in_err-write_no_line-clause-text g c =
    let remaining = g.R.Input.remaining in
    let contents = g.W.Output.contents in
    let q = c.run_lines.new.answerer in
    let same : c.from_residual-in_err-write_no_line.result ≡ Err c.in_err-write_no_line.field-0.0 = search rules in
    rw same (breaks_empty c.args.play.now q (remaining c.args.reader.now) (remaining c.run_lines.new.reader) (contents c.args.writer.now) (contents c.run_lines.new.writer) c.requires
    c.in_ok-run_lines.field-0 (contents c.write_no_line.new.writer) c.in_err-write_no_line.field-0.0 c.in_ok-run_lines.ensures.text (c.is_empty.ensures.0 c.if-not-is_empty.false) c.in_err-write_no_line.ensures.beginning)

pub returns-clause-text : goal.returns-clause-text
returns-clause-text g c =
    let remaining = g.R.Input.remaining in
    let contents = g.W.Output.contents in
    let q = c.run_lines.new.answerer in
    ends_empty c.args.play.now q (remaining c.args.reader.now) (remaining c.run_lines.new.reader) (contents c.args.writer.now) (contents c.run_lines.new.writer) c.requires
    c.in_ok-run_lines.field-0 (contents c.write_no_line.new.writer) c.in_ok-run_lines.ensures.text (c.is_empty.ensures.0 c.if-not-is_empty.false) c.in_ok-write_no_line.ensures.ok
