-- The reason why the program stops, according to why its parts did, and its status.
use Rattle.std.specs.Prelude.{◌≡◌, ℕ, List, Option, Some, None, Result, Ok, Err}
use Rattle.pay_audit.specs.declared.exported.ExportFault.TheVariants as export
use Rattle.pay_frame.specs.EngineFault.{engine_of}
use Rattle.pay_frame.specs.declared.engine.EngineFault.TheVariants as engine
use Rattle.pay_link.specs.declared.genesis.GenesisFault.TheVariants as genesis
use Rattle.pay_link.specs.declared.keys.KeysFault.TheVariants as keys
use Rattle.pay_log.specs.declared.fault.LogFault.{LogFault}
use Rattle.pay_log.specs.declared.fault.LogFault.TheVariants as log
use Rattle.pay_net.specs.declared.start.NodeFault.{NodeFault}
use Rattle.pay_net.specs.declared.start.NodeFault.TheVariants as node
use Rattle.pay_net.specs.declared.closing.Receipts.{Receipts}
use Rattle.pay_net.specs.declared.closing.Receipts.TheVariants.{Unjudged}
use Rattle.pay_net.specs.declared.ports.PortsFault.TheVariants as ports
use Rattle.pay_node.specs.declared.closing.CloseFault.TheVariants as close
use Rattle.payd.specs.declared.stop.Stop.{Stop}
use Rattle.payd.specs.declared.stop.Stop.TheVariants.{Engine, Genesis, Keys, Ports, Export, Close}
use Rattle.payd.specs.declared.stop.Stop.TheVariants.{Log, Unkept, Socket, Port, Taken, Clock}
use Rattle.payd.specs.declared.stop.Stop.TheVariants.{Forgets, OtherGroup, Descriptors}

-- why there is no member to export
abbrev pub node_stop : NodeFault → Stop
node_stop (node.Port port why) = Port port why
node_stop (node.Engine fault) = Engine (engine_of fault)
node_stop (node.Close fault) = Close fault

-- why a node with a failed log stops, according to how it ended: what it couldn't do is the disk's
-- fault then, even that its lines aren't read any more
abbrev pub unkept_stop : {X : Type 0} → LogFault → Result X Stop → Stop
unkept_stop why (Ok done) = Log why
unkept_stop why (Err (Engine fault)) = Unkept why
unkept_stop why (Err stop) = stop

-- The status. It is 1 if the input is wrong. It is 3 if memory, a device, the network or the clock
-- failed, or another node has the log. It is 4 if the disk failed or the log lost state. Otherwise
-- it is 2, for words and files.
abbrev pub status_of : Stop → ℕ
status_of (Engine (engine.Frame fault)) = 1
status_of (Close (close.Mismatch stamp)) = 1
status_of (Engine fault) = 3
status_of (Close (close.Memory uncounted)) = 3
status_of (Genesis genesis.Memory file) = 3
status_of (Keys keys.Memory file) = 3
status_of (Ports ports.Memory file) = 3
status_of (Export export.Memory file) = 3
status_of (Log log.Memory) = 3
status_of (Log log.Held) = 3
status_of (Port number why) = 3
status_of (Socket path kind) = 3
status_of (Taken path obstacle) = 3
status_of (Descriptors limit needed) = 3
status_of Clock = 3
status_of (Log (log.Disk kind)) = 4
status_of (Log log.Forgotten) = 4
status_of (Log log.Unnamed) = 4
status_of (Log log.Known) = 4
status_of (Unkept why) = 4
status_of (Forgets why) = 4
status_of _ = 2

-- the file that has the fault, and the member of a key in it; a lack of memory is no file's fault
abbrev pub stop_place : Stop → Option (List ℕ × Option ℕ)
stop_place (Genesis genesis.Memory file) = None
stop_place (Keys keys.Memory file) = None
stop_place (Ports ports.Memory file) = None
stop_place (Export export.Memory file) = None
stop_place (Genesis fault file) = Some (file.now, None)
stop_place (Keys (keys.BadKey member) file) = Some (file.now, Some member)
stop_place (Keys fault file) = Some (file.now, None)
stop_place (OtherGroup file) = Some (file.now, None)
stop_place (Ports fault file) = Some (file.now, None)
stop_place (Export fault file) = Some (file.now, None)
stop_place _ = None

-- why a node that ended with these receipts has no complete end: its export can't be written, or
-- the receipts weren't judged
abbrev pub IsUnconcluded : Receipts → Stop → Type 0
IsUnconcluded receipts (Engine fault) = fault ≡ engine.Write
IsUnconcluded receipts (Close fault) = (fault ≡ close.Memory None) × (receipts ≡ Unjudged)
IsUnconcluded receipts _ = ⊥
