use Rattle.std.proofs.Common.{sym, subst, ap, ◌∙◌, arith}
use Rattle.pay_link.specs.Genesis.{GenesisFields}
use Rattle.pay_sim.specs.Playing.{IsAfter}
use Rattle.pay_sim.proofs.Knowing.{next_of_none, next_from_none, next_from_itself, next_from}
use Rattle.pay_sim.proofs.game.Game.next.Goals as goal
use Rattle.pay_sim.proofs.game.Game.next.Goals.{then-from-members-via-then-from-members, then-from-members-via-else-from-members+then-from-to}

pub returns-in_default : goal.returns-in_default
returns-in_default g c = λ group es b.
    let b1 = subst (IsAfter group es) (sym c.self.view_is) b in
    next_of_none group es _ b1 c.member.ensures.limits c.args.from c.args.to (sym c.in_default.ensures.value)

pub returns-then-from-members : goal.returns-then-from-members
returns-then-from-members g c = λ group es b.
    let b1 = subst (IsAfter group es) (sym c.self.view_is) b in
    let same = b1.each c.args.to c.in-Some.receiver.now (sym c.in-Some.ensures.value) in
    elim c.then-from-members.branch [
      | then-from-members-via-then-from-members w ↦ next_from_none group es _ b1 c.member.ensures.limits c.args.from c.args.to
          (let count = c.members.ensures.value ∙ ap (λ (x : GenesisFields). x.members) (c.genesis.ensures.value ∙ same) in let many = w.if-from-members.true in omega arith)
      | then-from-members-via-else-from-members+then-from-to w ↦ next_from_itself group es _ b1 c.member.ensures.limits c.args.from c.args.to w.if-from-to.true
    ]

pub returns : goal.returns
returns g c = λ group es b.
    let b1 = subst (IsAfter group es) (sym c.self.view_is) b in
    let same = b1.each c.args.to c.in-Some.receiver.now (sym c.in-Some.ensures.value) in
    c.next.ensures ∙ next_from group es _ b1 c.member.ensures.limits c.args.from c.args.to c.in-Some.receiver.now (sym c.in-Some.ensures.value) (let count = c.members.ensures.value ∙ ap (λ (x : GenesisFields). x.members) (c.genesis.ensures.value ∙ same) in let less = c.if-from-members.false in omega arith) c.if-from-to.false
