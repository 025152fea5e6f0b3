-- The limits of a node, and how long it waits.
use Rattle.std.specs.Prelude.{◌≡◌}
use Rattle.pay_frame.specs.declared.limits.TheConstants.{MOST_READS}
use Rattle.pay_net.specs.declared.accepting.TheConstants.{MOST_CONNECTIONS}
use Rattle.pay_net.specs.declared.clients.TheConstants.{IDLE_SECONDS, MOST_CLIENTS}
use Rattle.pay_net.specs.declared.dialing.TheConstants.{DIAL_MILLIS, WRITE_MILLIS}
use Rattle.pay_net.specs.declared.refusals.TheConstants.{RELIEVED_MILLIS, STARVED_MILLIS}
use Rattle.pay_node.specs.declared.node.TheConstants.{MOST_SEATS}
use Rattle.pay_node.specs.declared.seat.TheConstants.{LATEST}
use Rattle.pay_peers.specs.declared.backoff.TheConstants.{QUIET_SECONDS}

-- The counts of inbound connections, and of clients of its desk. How long a client may be silent,
-- an attempt to connect may take, a write of WANTs may wait, and an outbound connection may deliver
-- nothing. How long a node is out of memory, and the time between failed allocations. The counts of
-- seats, of reads of its desk's input, and of receipts among which a seat looks for a reading.
pub record AreLimits : Type 0 where
  pub connections : MOST_CONNECTIONS ≡ 256
  pub clients : MOST_CLIENTS ≡ 16
  pub idle : IDLE_SECONDS ≡ 600
  pub dial : DIAL_MILLIS ≡ 1000
  pub write : WRITE_MILLIS ≡ 1000
  pub quiet : QUIET_SECONDS ≡ 60
  pub starved : STARVED_MILLIS ≡ 5000
  pub relieved : RELIEVED_MILLIS ≡ 2000
  pub seats : MOST_SEATS ≡ 256
  pub reads : MOST_READS ≡ 1000000
  pub latest : LATEST ≡ 256
