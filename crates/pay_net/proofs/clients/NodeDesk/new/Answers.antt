use Rattle.pay_net.proofs.DeskClients.{made_of_none}
use Rattle.pay_net.proofs.clients.NodeDesk.new.Goals as goal

pub invariant_of-result : goal.invariant_of-result
invariant_of-result g c = made_of_none _ _ c.requires
