use Rattle.std.proofs.Common.{◌≡◌, take}
use Rattle.std.specs.List.{fold}
use Rattle.pay_member.specs.declared.event.HistoryEntry.{HistoryEntry}
use Rattle.pay_node.specs.Closing.{lesser}
use Rattle.pay_node.proofs.closing.least_of_entries.Given as goal

abbrev pub invariant-loop-entry : goal.invariant-loop-entry
invariant-loop-entry l = l.least ≡ fold (λ least (e : HistoryEntry). lesser l.count least e.stamp) l.initial.least (take l.entry-index l.history)
