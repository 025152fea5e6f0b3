use Rattle.std.proofs.Common.{sym}
use Rattle.pay_member.specs.Events.{events}
use Rattle.pay_world.specs.Setting.{setting_by}
use Rattle.pay_laws.proofs.laws.exports_stay_clean.Goals as goal

pub returns : goal.returns
returns c = λ g faulty steps members genesis few fair are.
    let by = c.headline_of_restarts.ensures (setting_by g faulty) g.opening steps few fair in
    c.exports_are_clean.ensures g faulty by.0 members genesis few by.1
    (λ k m at.
    let is = are k m at in
    let moment = by.4 m.keys.own (events m.history) is.took in
    record {
      genesis = is.genesis;
      correct = is.correct;
      until = moment.0;
      moment = moment.1;
      took = sym moment.2;
    })
