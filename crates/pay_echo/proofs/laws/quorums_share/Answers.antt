use Rattle.pay_echo.proofs.Sets.{quorums_share, larger_has_another}
use Rattle.pay_echo.proofs.laws.quorums_share.Goals as goal

pub returns : goal.returns
returns c = record { share = quorums_share; another = larger_has_another }
