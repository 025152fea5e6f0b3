use Rattle.pay_channel.proofs.Places.{list_is_values, list_begins_values, lists_alike, lists_compare}
use Rattle.pay_channel.proofs.laws.lists_compared.Goals as goal

pub returns : goal.returns
returns c = record { values = list_is_values; begins = list_begins_values; alike = lists_alike; compare = lists_compare }
