use Rattle.pay_net.proofs.DeskClients.{asks_once}
use Rattle.pay_net.proofs.laws.clients_ask_once.Goals as goal

pub returns : goal.returns
returns g c = asks_once c.a_desk_asks_once.ensures.life
