use Rattle.pay_channel.proofs.HistoryLaws.{votes_grow, out_grows}
use Rattle.pay_channel.proofs.laws.grow_at_the_end.Goals as goal

pub returns : goal.returns
returns c = record { votes = votes_grow; out = out_grows }
