use Rattle.std.proofs.Common.{◌+◌, ap, sym, subst, arith}
use Rattle.std.proofs.lemmas.Grind.{common_steps}
use Rattle.pay_echo.specs.Broadcast.{value_of}
use Rattle.pay_channel.specs.Source.{GrowsOnly}
use Rattle.pay_channel.specs.History.{Ask}
use Rattle.pay_channel.specs.State.{State, channel_lists}
use Rattle.pay_channel.specs.Applied.{IsToldOf, Takes}
use Rattle.pay_channel.proofs.Asking.{with_asks, asked_sound, asked_takes, asked_told, asked_grow}
use Rattle.pay_channel.proofs.channel.Channel.ask.Goals as goal

pub invariant_of-self : goal.invariant_of-self
invariant_of-self g c = asked_sound _ (c.self.inside.asks + 1) c.self-2.inside.listed.items c.self-2.invariant

pub returns-clause-takes : goal.returns-clause-takes
returns-clause-takes g c =
    let At : State → Type 0 = λ x. Takes c.args.self.now (with_asks x (c.self.inside.asks + 1)) (Ask c.args.value.now) in
    subst At (sym c.self-2.view_is)
    (asked_takes c.args.self.now c.vote.new.self c.self.inside.group.own c.self.inside.asks (ap (λ (x : State). x.group.own) c.self.view_is) (ap (λ (x : State). x.asks) c.self.view_is) c.args.value.now c.in_ok-send.send c.in_ok-send.ensures c.in_ok-applied.ensures.takes)

pub returns-clause-applied : goal.returns-clause-applied
returns-clause-applied g c =
    let At : State → Type 0 = λ x. IsToldOf c.args.self.now (with_asks x (c.self.inside.asks + 1)) c.args.self.now.group.own c.args.self.now.asks c.in_ok-applied.applied in
    subst At (sym c.self-2.view_is)
    (asked_told c.args.self.now c.vote.new.self c.self.inside.group.own c.self.inside.asks (ap (λ (x : State). x.group.own) c.self.view_is) (ap (λ (x : State). x.asks) c.self.view_is) (c.self.inside.asks + 1) c.in_ok-applied.applied c.in_ok-applied.ensures.applied)

pub returns-clause-grows : goal.returns-clause-grows
returns-clause-grows g c =
    let At : State → Type 0 = λ x. GrowsOnly (channel_lists c.args.self.now) (channel_lists (with_asks x (c.self.inside.asks + 1))) c.args.self.now.group.own in
    subst At (sym c.self-2.view_is)
    (asked_grow c.args.self.now c.vote.new.self c.self.inside.group.own c.self.inside.asks (ap (λ (x : State). x.group.own) c.self.view_is) (ap (λ (x : State). x.asks) c.self.view_is) (c.self.inside.asks + 1) c.in_ok-applied.ensures.grows)

pub vote-requires-clause-value : goal.vote-requires-clause-value
unfolding value_of
vote-requires-clause-value g c = c.requires.value

pub returns-in_err-applied-clause-err : goal.returns-in_err-applied-clause-err
returns-in_err-applied-clause-err g c = grind (arith, common_steps)

pub returns-in_err-send-clause-err : goal.returns-in_err-send-clause-err
returns-in_err-send-clause-err g c = grind (arith, common_steps)
