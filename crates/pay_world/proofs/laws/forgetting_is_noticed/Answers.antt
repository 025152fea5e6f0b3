use Rattle.pay_world.proofs.Converging.{listener}
use Rattle.pay_world.proofs.Noticing.{listed_is_noticed, delivered_is_noticed}
use Rattle.pay_world.proofs.laws.forgetting_is_noticed.Goals as goal

pub returns : goal.returns
returns c =
    let below = c.laws_below.ensures in
    let places = c.lists_are_delivered.ensures.place in
    record {
      listener = λ w h i j a s v stands few all correct bad heard is. listener below w h stands few all i j a s v correct bad heard is;
      listed = λ w h i j s v stands few all correct bad heard is unasked. listed_is_noticed below places w h stands few all i j correct bad heard s v is unasked;
      delivered = λ w h i j s v stands few all correct bad heard is unasked. delivered_is_noticed below places w h stands few all i j correct bad heard s v is unasked;
    }
