use Rattle.std.proofs.Common.{◌≡◌, Some, None, sym, ap, ◌∙◌}
use Rattle.pay_frame.specs.Lent.{fields_of}
use Rattle.pay_world.specs.World.{member_in}
use Rattle.pay_world.proofs.Forging.{unsent_unnamed, unsent_named}
use Rattle.pay_world.proofs.world.World.is_unsent.Goals as goal

pub returns-in-Some : goal.returns-in-Some
returns-in-Some g c =
    let w = c.args.self.now in
    let f = fields_of c.args.frame.now in
    let named : member_in w f.from ≡ Some c.in-Some.sender.now = sym (c.in-Some.ensures.value ∙ ap (member_in w) c.from.ensures.value) in
    unsent_named w c.in-Some.sender.now f c.is_sent.result c.member.ensures.limits named c.is_sent.ensures

pub returns-in-None : goal.returns-in-None
returns-in-None g c =
    let w = c.args.self.now in
    let f = fields_of c.args.frame.now in
    let none : member_in w f.from ≡ None = sym (c.in-None.ensures.value ∙ ap (member_in w) c.from.ensures.value) in
    unsent_unnamed w f c.member.ensures.limits none
