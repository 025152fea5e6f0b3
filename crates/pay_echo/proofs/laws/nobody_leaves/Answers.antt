use Rattle.pay_echo.proofs.VoteLaws.{echo_stays, ready_stays, other_ready_stays}
use Rattle.pay_echo.proofs.WhyLaws.{echo_set-grows, ready_set-grows, other_ready_set-grows}
use Rattle.pay_echo.proofs.laws.nobody_leaves.Goals as goal

pub returns : goal.returns
returns c = record { echo = echo_stays; ready = ready_stays; other_ready = other_ready_stays; echo_set = echo_set-grows; ready_set = ready_set-grows; other_ready_set = other_ready_set-grows }
