-- A statement about what a node's desk keeps, whoever gave it lines. It is proved as a public law.
use Rattle.std.specs.Prelude.{List}
use Rattle.pay_channel.specs.Asked.{asked_values}
use Rattle.pay_desk.specs.declared.desk.Desk.{Desk}
use Rattle.pay_desk.specs.declared.kept.Kept.{Kept}
use Rattle.pay_desk.specs.Laws.{KeepsAll}
use Rattle.pay_member.specs.declared.event.HistoryEntry.{HistoryEntry}
use Rattle.pay_member.specs.Events.{events}
use Rattle.pay_node.specs.Nodes.{NodeFields}
use Rattle.pay_net.specs.Desks.{IsMadeOf, first_desk}
use Rattle.pay_net.specs.Starting.{IsKeptOf}
use Rattle.pay_peers.specs.Telling.{TellerFields, values_told}

-- A node's desk that began with what a history submitted keeps just that and what was broadcast
-- through it since, in order. Each value has an id of its own.
abbrev pub ClientsAskOnce : Type 0
ClientsAskOnce =
    (n : NodeFields) (history : List HistoryEntry) (kept : List Kept) (desk : Desk TellerFields)
    → IsKeptOf history kept → IsMadeOf (first_desk n kept) desk
    → KeepsAll (λ t. values_told t.seat.receipts) (asked_values (events history)) desk
