use Rattle.pay_channel.proofs.VotesTaken.{echo_is_taken, ready_is_taken, send_is_taken}
use Rattle.pay_channel.proofs.laws.votes_are_taken.Goals as goal

pub returns : goal.returns
returns c = record { echo = echo_is_taken; ready = ready_is_taken; send = send_is_taken }
