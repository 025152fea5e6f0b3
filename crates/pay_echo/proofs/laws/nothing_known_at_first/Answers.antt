use Rattle.std.proofs.Common.{refl}
use Rattle.pay_echo.specs.Broadcast.{echoed}
use Rattle.pay_echo.proofs.OneMore.{readied-none, delivered-none}
use Rattle.pay_echo.proofs.laws.nothing_known_at_first.Goals as goal

pub returns : goal.returns
unfolding echoed
returns c = record { echoed = refl; readied = readied-none; delivered = delivered-none }
