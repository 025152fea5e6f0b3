use Rattle.pay_echo.proofs.WhyLaws.{why_ready, why_delivered, quorum_makes_ready, amplification_makes_ready, readys_deliver}
use Rattle.pay_echo.proofs.laws.why_known.Goals as goal

pub returns : goal.returns
returns c = record { ready = why_ready; delivered = why_delivered; quorum = quorum_makes_ready; amplification = amplification_makes_ready; readys = readys_deliver }
