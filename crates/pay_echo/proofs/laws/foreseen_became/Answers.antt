use Rattle.pay_echo.proofs.Clauses.{foreseen_became}
use Rattle.pay_echo.proofs.laws.foreseen_became.Goals as goal

pub returns : goal.returns
returns c = foreseen_became
