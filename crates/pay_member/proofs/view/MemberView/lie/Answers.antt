use Rattle.std.proofs.Common.{◌≡◌, ◌<◌, length, get_or, Option, None, sym, ap, ◌∙◌, subst, arith}
use Rattle.std.proofs.lemmas.List.{get_or_default}
use Rattle.pay_member.specs.declared.ledger.Lie.{Lie}
use Rattle.pay_member.specs.Events.{events}
use Rattle.pay_member.specs.Lies.{IsFound}
use Rattle.pay_member.specs.Member.{MemberFields}
use Rattle.pay_member.proofs.view.MemberView.lie.Goals as goal

pub returns : goal.returns
returns g c =
    let At : MemberFields → Type 0 = λ m. IsFound (events m.history) c.args.peer c.index.result.now in
    let Below : MemberFields → Type 0 = λ m. c.args.peer < m.genesis.members in
    let below : c.args.peer < c.self.inside.genesis.now.members = subst Below (sym c.self.view_is) c.requires in
    let within : c.args.peer < length c.self.inside.lies.now.items = (let n = c.self.invariant.lies_found.places in omega arith) in
    let is : c.index.result.now ≡ get_or c.self.inside.lies.now.items c.args.peer None = c.index.ensures ∙ ap (λ n. get_or c.self.inside.lies.now.items n c.index.result.now) c.from.ensures ∙ get_or_default c.self.inside.lies.now.items c.args.peer c.index.result.now None within in
    subst At c.self.view_is (subst (λ (o : Option Lie). IsFound (events c.self.inside.history.now) c.args.peer o) (sym is) (c.self.invariant.lies_found.each c.args.peer below))
