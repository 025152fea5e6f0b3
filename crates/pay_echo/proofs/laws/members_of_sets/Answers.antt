use Rattle.pay_echo.proofs.VoteLaws.{in_echo_set, in_ready_set, in_other_ready_set, own_echo, own_ready}
use Rattle.pay_echo.proofs.laws.members_of_sets.Goals as goal

pub returns : goal.returns
returns c = record { echo_set = in_echo_set; ready_set = in_ready_set; other_ready_set = in_other_ready_set; own_echo = own_echo; own_ready = own_ready }
