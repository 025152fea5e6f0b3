use Rattle.std.proofs.Common.{rules, ◌≡◌, None, refl, subst}
use Rattle.pay_member.specs.Events.{events}
use Rattle.pay_member.specs.Legal.{Legal}
use Rattle.pay_member.specs.Lies.{IsFound}
use Rattle.pay_member.specs.Member.{MemberFields}
use Rattle.pay_node.specs.Nodes.{IsOwn}
use Rattle.pay_node.proofs.node.Node.accuse.Goals as goal

pub returns-in-None-clause-accused : goal.returns-in-None-clause-accused
returns-in-None-clause-accused g c =
    let m = c.member-member.result.now in
    let own : IsOwn c.args.self.now m = search rules in
    let legal : Legal m.genesis m.keys m.history = search rules in
    let none : c.lie.result ≡ None = search rules in
    let told : IsFound (events m.history) c.args.peer c.lie.result = subst (λ (x : MemberFields). IsFound (events x.history) c.args.peer c.lie.result) c.view.ensures c.lie.ensures in
    (record { member = m; own = own; legal = legal; is = subst (IsFound (events m.history) c.args.peer) none told }, refl)
