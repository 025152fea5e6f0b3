use Rattle.std.proofs.Common.{◌≡◌, ℕ, ◌<◌, Bool, slice_get, Option, Some, None, is_some, Bor, refl, sym, ap, ◌∙◌, subst}
use Rattle.std.specs.Option.{option_copied}
use Rattle.pay_frame.specs.Frame.{BodyFields}
use Rattle.pay_channel.specs.History.{out}
use Rattle.pay_member.specs.Events.{events}
use Rattle.pay_member.specs.Group.{group_in}
use Rattle.pay_link.specs.Genesis.{GenesisFields}
use Rattle.pay_world.proofs.UnderWay.{taken_is_told}
use Rattle.pay_world.proofs.convergence.has_taken.Goals as goal

is_some-copied : (o : Option (Bor BodyFields)) → is_some o ≡ is_some (option_copied o)
is_some-copied None = refl
is_some-copied (Some x) = refl

pub next-requires : goal.next-requires
next-requires g c =
    let w = c.args.world.now in
    let at = c.member.ensures.limits.each c.args.receiver c.in-Some.taker.now (sym c.in-Some.ensures.value) in
    subst (λ (x : GenesisFields). c.args.sender < x.members) (sym at.genesis) c.requires

pub returns : goal.returns
returns g c =
    let giver = c.in-Some-member.giver.now in
    let sent : ℕ → Bool = λ n. is_some (slice_get (out (group_in giver.genesis giver.keys.own) (events giver.history)) n) in
    taken_is_told c.args.world.now c.member.ensures.limits c.args.receiver c.args.sender c.in-Some.taker.now giver c.is_none.result
    (sym c.in-Some.ensures.value) (sym c.in-Some-member.ensures.value) c.if-receiver-sender.false
    (sym (ap sent c.next.ensures) ∙ sym (ap is_some c.sent.ensures) ∙ sym (is_some-copied c.sent.result) ∙ c.is_none.ensures)
