use Rattle.pay_echo.proofs.VoteLaws.{echoed_stays, readied_stays, delivered_stays}
use Rattle.pay_echo.proofs.laws.known_stays.Goals as goal

pub returns : goal.returns
returns c = record { echoed = echoed_stays; readied = readied_stays; delivered = delivered_stays }
