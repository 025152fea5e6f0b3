use Rattle.pay_world.proofs.StandInduction.{stands_at_first, stands_by_one_more}
use Rattle.pay_world.proofs.Taking.{stands_by_action}
use Rattle.pay_world.proofs.Happening.{genuine_stands}
use Rattle.pay_world.proofs.laws.correct_members_stand.Goals as goal

pub returns : goal.returns
returns c =
    let below = c.laws_below.ensures in
    record {
      first = stands_at_first below;
      one_more = λ w old new k e few longer allowed stands. stands_by_one_more below w old new k e longer few allowed stands;
      action = λ w old new d few genuine grown stands. stands_by_action below w few old new d genuine grown stands;
      genuine = genuine_stands below;
    }
