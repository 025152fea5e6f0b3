use Rattle.pay_world.proofs.Converging.{convergence, lists_converge, asks_are_delivered, list_is_all}
use Rattle.pay_world.proofs.laws.all_converge.Goals as goal

pub returns : goal.returns
returns c =
    let below = c.laws_below.ensures in
    record {
      deliveries = λ w h i j a s stands few all. convergence below w h stands few all i j a s;
      lists = λ w h i j stands few all. lists_converge below w h stands few all i j;
      asks = λ w h i a s v stands few all. asks_are_delivered below w h stands few all i a s v;
      all = λ w h i a stands few all. list_is_all below w h stands few all i a;
    }
