use Rattle.pay_world.proofs.Running.{answered_unforged, refused_forged}
use Rattle.pay_world.proofs.laws.what_is_forged.Goals as goal

pub returns-clause-answered : goal.returns-clause-answered
returns-clause-answered c = λ w e reply said. answered_unforged w e reply said

pub returns-clause-said : goal.returns-clause-said
returns-clause-said c = λ w e k said. refused_forged w e k said
