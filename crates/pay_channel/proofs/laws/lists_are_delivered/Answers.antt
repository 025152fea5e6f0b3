use Rattle.pay_channel.proofs.Places.{place_is_value, place_is_delivered, listed_is_delivered, list_is_short, list_reaches, list_ends, empty_of_nobody}
use Rattle.pay_channel.proofs.laws.lists_are_delivered.Goals as goal

pub returns : goal.returns
returns c =
    record {
      values = place_is_value;
      place = place_is_delivered;
      listed = listed_is_delivered;
      short = list_is_short;
      reaches = list_reaches;
      ends = list_ends;
      nobody = empty_of_nobody;
    }
