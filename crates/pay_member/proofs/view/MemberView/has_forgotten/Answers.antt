use Rattle.std.proofs.Common.{◌≡◌, ◌↔◌, true, false, subst}
use Rattle.pay_member.specs.Member.{MemberFields}
use Rattle.pay_member.specs.Events.{events}
use Rattle.pay_member.specs.Group.{group_in}
use Rattle.pay_member.specs.Remembering.{Remembers, HasForgotten}
use Rattle.pay_member.proofs.Rememberings.{true_as_forgotten, false_as_remembered}
use Rattle.pay_member.proofs.view.MemberView.has_forgotten.Goals as goal

pub returns-clause-evidence : goal.returns-clause-evidence
returns-clause-evidence g c =
    let At : MemberFields → Type 0 = λ m. (c.has_forgotten.result ≡ true) ↔ HasForgotten (group_in m.genesis m.keys.own) (events m.history) in
    subst At c.self.view_is
    (true_as_forgotten (group_in c.self.inside.genesis.now c.self.inside.keys.now.own) (events c.self.inside.history.now) c.self.inside.ledger.now.has_forgotten c.has_forgotten.result c.has_forgotten.ensures c.self.invariant.tells)

pub returns-clause-remembers : goal.returns-clause-remembers
returns-clause-remembers g c =
    let At : MemberFields → Type 0 = λ m. (c.has_forgotten.result ≡ false) ↔ Remembers (group_in m.genesis m.keys.own) (events m.history) in
    subst At c.self.view_is
    (false_as_remembered (group_in c.self.inside.genesis.now c.self.inside.keys.now.own) (events c.self.inside.history.now) c.self.inside.ledger.now.has_forgotten c.has_forgotten.result c.has_forgotten.ensures c.self.invariant.tells)
