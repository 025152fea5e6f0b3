use Rattle.pay_laws.proofs.Witnessing.{loss_is_found}
use Rattle.pay_laws.proofs.laws.loss_is_found.Goals as goal

pub returns : goal.returns
returns c = loss_is_found c.sizes_of_sets.ensures.part
