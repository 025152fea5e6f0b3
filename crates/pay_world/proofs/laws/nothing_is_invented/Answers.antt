use Rattle.pay_world.proofs.Agreeing.{integrity, list_is_asked}
use Rattle.pay_world.proofs.laws.nothing_is_invented.Goals as goal

pub returns : goal.returns
returns c =
    let below = c.laws_below.ensures in
    record {
      value = λ w h i a s v stands few. integrity below w h stands few i a s v;
      list = λ w h i a stands few. list_is_asked below w h stands few i a;
    }
