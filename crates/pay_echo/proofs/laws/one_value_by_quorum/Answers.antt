use Rattle.pay_echo.proofs.WhyLaws.{one_value_by_quorum}
use Rattle.pay_echo.proofs.laws.one_value_by_quorum.Goals as goal

pub returns : goal.returns
returns c = one_value_by_quorum
