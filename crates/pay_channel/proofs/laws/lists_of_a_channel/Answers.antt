use Rattle.pay_channel.proofs.ChannelLists.{lists_of_are_short, unchanged_lists}
use Rattle.pay_channel.proofs.laws.lists_of_a_channel.Goals as goal

pub returns : goal.returns
returns c = record { short = lists_of_are_short; unchanged = unchanged_lists }
