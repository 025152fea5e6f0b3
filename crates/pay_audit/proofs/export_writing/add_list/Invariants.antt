use Rattle.std.proofs.Common.{◌∷◌, false, map, take}
use Rattle.pay_audit.specs.Exporting.{value_data}
use Rattle.pay_audit.specs.Gathering.{Adds, state}
use Rattle.pay_audit.proofs.Items.{begun}
use Rattle.pay_audit.proofs.export_writing.add_list.Given as goal

-- those so far
abbrev pub invariant-loop-place : goal.invariant-loop-place
invariant-loop-place g l =
    let contents = g.W.Output.contents in
    let failures = g.W.Output.failure_count in
    Adds (state contents failures l.fn.text l.fn.writer) (state contents failures l.text l.writer)
    (91 ∷ begun false (map value_data (take l.place (g.S.Source.lists l.source l.owner))))
