use Rattle.pay_net.proofs.Places.{another_one_stays, current_ones_stay, one_stands}
use Rattle.pay_net.proofs.laws.peers_keep_their_places.Goals as goal

pub returns-clause-current : goal.returns-clause-current
returns-clause-current c = current_ones_stay

pub returns-clause-another : goal.returns-clause-another
returns-clause-another c = another_one_stays

pub returns-clause-taken : goal.returns-clause-taken
returns-clause-taken c = one_stands
