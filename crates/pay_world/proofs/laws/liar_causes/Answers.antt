use Rattle.pay_world.proofs.LiarLemmas.{no_fault, unknown_fault, twice_fault, many_fault}
use Rattle.pay_world.proofs.laws.liar_causes.Goals as goal

pub returns : goal.returns
returns c = record { none = no_fault; unknown = unknown_fault; twice = twice_fault; too_many = many_fault }
