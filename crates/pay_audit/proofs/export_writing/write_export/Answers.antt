use Rattle.std.proofs.Common.{ap}
use Rattle.serde_json.specs.Written.{compact_text}
use Rattle.pay_audit.specs.Exporting.{export_data, export_of}
use Rattle.pay_audit.specs.Gathering.{state}
use Rattle.pay_audit.proofs.ExportText.{both_err, both_ok, broke, broke_count, ended, ended_count, on_true}
use Rattle.pay_audit.proofs.export_writing.write_export.Goals as goal

pub returns-clause-text : goal.returns-clause-text
returns-clause-text g c =
    let at = state g.W.Output.contents g.W.Output.failure_count in
    let a = at c.new-text.result c.args.writer.now in
    let b = at c.add_export.new.text c.add_export.new.writer in
    let text = compact_text (export_data (export_of c.args.member.now)) in
    both_ok c.finish.result (ended c.new-text.result.failed c.add_export.new.text.failed a b (g.W.Output.contents c.finish.new.writer) text c.new-text.ensures.failed c.new-text.ensures.held c.add_export.ensures)
    c.finish.ensures.ok c.finish.ensures.written

pub returns-clause-none_failed : goal.returns-clause-none_failed
returns-clause-none_failed g c =
    let at = state g.W.Output.contents g.W.Output.failure_count in
    let a = at c.new-text.result c.args.writer.now in
    let b = at c.add_export.new.text c.add_export.new.writer in
    let text = compact_text (export_data (export_of c.args.member.now)) in
    both_ok c.finish.result (ended_count c.new-text.result.failed c.add_export.new.text.failed a b (g.W.Output.failure_count c.finish.new.writer) text c.new-text.ensures.failed c.add_export.ensures)
    c.finish.ensures.ok c.finish.ensures.none_failed

pub returns-clause-beginning : goal.returns-clause-beginning
returns-clause-beginning g c =
    let contents = g.W.Output.contents in
    let at = state contents g.W.Output.failure_count in
    let a = at c.new-text.result c.args.writer.now in
    let b = at c.add_export.new.text c.add_export.new.writer in
    let text = compact_text (export_data (export_of c.args.member.now)) in
    both_err c.finish.result
    (λ rest same. broke c.new-text.result.failed c.add_export.new.text.failed a b (contents c.finish.new.writer) text c.new-text.ensures.failed c.new-text.ensures.held c.add_export.ensures rest
    (on_true c.add_export.new.text.failed (ap contents) same))
    c.finish.ensures.beginning c.finish.ensures.before

pub returns-clause-failed : goal.returns-clause-failed
returns-clause-failed g c =
    let failures = g.W.Output.failure_count in
    let at = state g.W.Output.contents failures in
    let a = at c.new-text.result c.args.writer.now in
    let b = at c.add_export.new.text c.add_export.new.writer in
    let text = compact_text (export_data (export_of c.args.member.now)) in
    both_err c.finish.result
    (λ rest same. broke_count c.new-text.result.failed c.add_export.new.text.failed a b (failures c.finish.new.writer) text c.new-text.ensures.failed c.add_export.ensures rest
    (on_true c.add_export.new.text.failed (ap failures) same))
    c.finish.ensures.failed c.finish.ensures.before
