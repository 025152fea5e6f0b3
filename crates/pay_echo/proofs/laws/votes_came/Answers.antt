use Rattle.pay_echo.proofs.VoteLaws.{send_came, echo_came, ready_came}
use Rattle.pay_echo.proofs.WhyLaws.{send_is_echoed, echo_counts, ready_counts}
use Rattle.pay_echo.proofs.Voted.{voted_is_taken}
use Rattle.pay_echo.proofs.laws.votes_came.Goals as goal

pub returns : goal.returns
returns c = record { send = send_came; echo = echo_came; ready = ready_came; echoed = send_is_echoed; echo_counts = echo_counts; ready_counts = ready_counts; voted = voted_is_taken }
