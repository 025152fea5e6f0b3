use Rattle.std.proofs.Common.{◌∷◌, false, map, take}
use Rattle.pay_audit.specs.Exporting.{export_of, list_data}
use Rattle.pay_audit.specs.Gathering.{Adds, state}
use Rattle.pay_audit.proofs.Items.{begun}
use Rattle.pay_audit.proofs.export_writing.add_lists.Given as goal

-- those of the owners so far
abbrev pub invariant-loop-owner : goal.invariant-loop-owner
invariant-loop-owner g l =
    let contents = g.W.Output.contents in
    let failures = g.W.Output.failure_count in
    Adds (state contents failures l.fn.text l.fn.writer) (state contents failures l.text l.writer)
    (91 ∷ begun false (map list_data (take l.owner (export_of l.member).lists)))
