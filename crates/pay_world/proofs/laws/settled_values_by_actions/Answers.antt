use Rattle.pay_world.specs.Headline.{lists_by}
use Rattle.pay_world.proofs.Values.{settled_value_stays, no_settled_value_forks, settled_value_was_asked}
use Rattle.pay_world.proofs.laws.settled_values_by_actions.Goals as goal

pub returns : goal.returns
returns c =
    let below = c.laws_below.ensures in
    let values = c.settled_values.ensures in
    record {
      entries = λ w opening actions i a. values.entries opening (lists_by w actions i) a;
      agree = λ w opening actions one other i j a few are. no_settled_value_forks below w opening actions few are one other i j a;
      for_good = settled_value_stays below values.grow;
      asked = λ w opening actions i a few are. settled_value_was_asked below w opening actions few are i a;
    }
