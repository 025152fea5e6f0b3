use Rattle.pay_world.proofs.Agreeing.{list_grows}
use Rattle.pay_world.proofs.laws.nothing_is_taken_back.Goals as goal

pub returns : goal.returns
returns c = list_grows c.laws_below.ensures
