use Rattle.pay_world.proofs.Booking.{no_list_forks, list_was_asked, list_stays, lists_are_equal, list_is_complete}
use Rattle.pay_world.proofs.laws.lists_by_actions.Goals as goal

pub returns : goal.returns
returns c =
    let below = c.laws_below.ensures in
    record {
      no_fork = λ w actions one other i j a few are. no_list_forks below w actions few are one other i j a;
      asked = λ w actions i a few are. list_was_asked below w actions few are i a;
      stays = list_stays below;
      equal = λ w actions i j few are. lists_are_equal below w actions few are i j;
      complete = λ w actions i a few are. list_is_complete below w actions few are i a;
    }
