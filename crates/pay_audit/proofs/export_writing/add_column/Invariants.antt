use Rattle.std.proofs.Common.{◌∷◌, false, map, take}
use Rattle.pay_audit.specs.Columns.{column_of}
use Rattle.pay_audit.specs.Exporting.{export_of, number_data}
use Rattle.pay_audit.specs.Gathering.{Adds, state}
use Rattle.pay_audit.proofs.Items.{begun}
use Rattle.pay_audit.proofs.export_writing.add_column.Given as goal

-- those of the accounts so far
abbrev pub invariant-loop-account : goal.invariant-loop-account
invariant-loop-account g l =
    let contents = g.W.Output.contents in
    let failures = g.W.Output.failure_count in
    Adds (state contents failures l.fn.text l.fn.writer) (state contents failures l.text l.writer)
    (91 ∷ begun false (map number_data (take l.account (column_of (export_of l.member) l.column))))
