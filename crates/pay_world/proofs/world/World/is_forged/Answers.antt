use Rattle.std.proofs.Common.{◌&&◌, is_some, sym, ap, ◌∙◌}
use Rattle.pay_member.specs.Bringing.{opened_in}
use Rattle.pay_world.proofs.Forging.{forged_by, is_some-map}
use Rattle.pay_world.proofs.world.World.is_forged.Goals as goal

pub returns-then-are_unsent : goal.returns-then-are_unsent
returns-then-are_unsent g c =
    let opened = is_some (opened_in c.in-Some.receiver.now.keys c.args.bytes.now) in
    c.is_some.ensures
    ∙ sym (is_some-map (λ o. o.frame) c.opens.result)
    ∙ ap is_some c.opens.ensures
    ∙ sym (ap (λ b. b && opened) c.if-are_unsent.true)
    ∙ forged_by c.what_opens.ensures c.args.self.now c.args.member c.args.bytes.now c.in-Some.receiver.now c.are_unsent.result c.member.ensures.limits
    (sym c.in-Some.ensures.value) c.are_unsent.ensures

pub returns-else-are_unsent : goal.returns-else-are_unsent
returns-else-are_unsent g c =
    let opened = is_some (opened_in c.in-Some.receiver.now.keys c.args.bytes.now) in
    c.if-are_unsent.false
    ∙ sym (ap (λ b. b && opened) c.if-are_unsent.false)
    ∙ forged_by c.what_opens.ensures c.args.self.now c.args.member c.args.bytes.now c.in-Some.receiver.now c.are_unsent.result c.member.ensures.limits
    (sym c.in-Some.ensures.value) c.are_unsent.ensures
