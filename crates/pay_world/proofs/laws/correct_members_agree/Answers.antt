use Rattle.pay_world.proofs.Agreeing.{agreement, lists_compare}
use Rattle.pay_world.proofs.laws.correct_members_agree.Goals as goal

pub returns : goal.returns
returns c =
    let below = c.laws_below.ensures in
    record {
      values = λ w h one other i j a s v u stands few. agreement below w h stands few one other i j a s v u;
      lists = λ w h one other i j a stands few. lists_compare below w h stands few one other i j a;
    }
