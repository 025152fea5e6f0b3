use Rattle.pay_echo.proofs.VoteLaws.{second_send, second_echo, second_ready}
use Rattle.pay_echo.proofs.laws.second_vote_changes_nothing.Goals as goal

pub returns : goal.returns
returns c = record { send = second_send; echo = second_echo; ready = second_ready }
