use Rattle.std.proofs.Common.{◌≡◌, ℕ, ◌<◌, length, refl, sym, ap, ◌∙◌, subst}
use Rattle.pay_echo.specs.Broadcast.{Group}
use Rattle.pay_channel.specs.Source.{GrowsOnly}
use Rattle.pay_channel.specs.State.{channel_lists}
use Rattle.pay_channel.specs.History.{owner_of}
use Rattle.pay_channel.specs.Applied.{event_of_ref}
use Rattle.pay_member.specs.Ledger.{LedgerFields, IsNoticed, Grows, IsSameLedger}
use Rattle.pay_member.proofs.Ledgers.{same_ledger, grown_can_settle, settled_ledger, on_err}
use Rattle.pay_member.proofs.ledger.Ledger.apply.Goals as goal

pub invariant_of-self : goal.invariant_of-self
invariant_of-self g c =
    same_ledger c.lists_of_a_channel.ensures.unchanged c.same_lists_stay_settled.ensures
    c.self.inside.channel c.apply.new.self (g.B.Settle.shows c.self.inside.book) c.self.inside.has_forgotten c.in_err-applied.ensures.err c.self.invariant

pub settle-settled-requires : goal.settle-settled-requires
settle-settled-requires g c =
    let Member : LedgerFields → Type 0 = λ l. c.args.owner < l.channel.group.members in
    let Owner : LedgerFields → Type 0 = λ l. c.args.owner ≡ owner_of l.channel.group.own (event_of_ref c.args.event) in
    let owner = subst Owner (sym c.self.view_is) c.requires.owner in
    grown_can_settle c.lists_of_a_channel.ensures.short c.group_lists_are_countable.ensures c.grown_list_can_settle.ensures
    c.self.inside.channel c.apply.new.self (g.B.Settle.shows c.self.inside.book) c.self.inside.has_forgotten c.args.owner c.self.invariant
    (subst (GrowsOnly (channel_lists c.self.inside.channel) (channel_lists c.apply.new.self)) (sym owner) c.in_ok-applied.ensures.grows)
    (subst Member (sym c.self.view_is) c.requires.member)

pub returns-clause-grows : goal.returns-clause-grows
returns-clause-grows g c =
    let Own : LedgerFields → Type 0 = λ l. c.args.own ≡ l.channel.group.own in
    let own = subst Own (sym c.self.view_is) c.requires.own in
    let from = c.in_order-from.ensures ∙ ap (λ (a : ℕ). length (channel_lists c.self.inside.channel a)) own in
    let At : LedgerFields → Type 0 = λ l. Grows l (record { channel = c.apply.new.self; book = g.B.Settle.shows c.settle-settled.new.self; has_forgotten = c.has_noticed-self-inside.result }) (event_of_ref c.args.event) (record {
      echo = c.in_ok-applied.applied.echo;
      ready = c.in_ok-applied.applied.ready;
      deliver = c.in_ok-applied.applied.deliver;
      settled = c.settle-settled.result;
    }) in
    subst At c.self.view_is
    (record {
      group = c.in_ok-applied.ensures.takes.group;
      opening = c.settle-settled.ensures.opening;
      sound = settled_ledger c.self.inside.channel c.apply.new.self (g.B.Settle.shows c.self.inside.book) (g.B.Settle.shows c.settle-settled.new.self)
          c.self.inside.has_forgotten c.has_noticed-self-inside.result c.self.invariant c.in_ok-applied.ensures.takes.group c.settle-settled.ensures.opening c.settle-settled.ensures.settled;
      takes = c.in_ok-applied.ensures.takes;
      grown = c.in_ok-applied.applied.grown;
      applied = c.in_ok-applied.ensures.applied;
      settled = c.settle-settled.ensures.count;
      noticed = subst (λ (a : ℕ). IsNoticed c.apply.new.self a (length (channel_lists c.self.inside.channel c.self.inside.channel.group.own)) c.self.inside.has_forgotten c.has_noticed-self-inside.result)
          (own ∙ ap (λ (x : Group). x.own) (sym c.in_ok-applied.ensures.takes.group))
          (subst (λ (n : ℕ). IsNoticed c.apply.new.self c.args.own n c.self.inside.has_forgotten c.has_noticed-self-inside.result) from c.has_noticed-self-inside.ensures);
    })

pub returns-in_err-applied-clause-err : goal.returns-in_err-applied-clause-err
returns-in_err-applied-clause-err g c =
    let At : LedgerFields → Type 0 = λ l. IsSameLedger l (record { channel = c.apply.new.self; book = g.B.Settle.shows c.self.inside.book; has_forgotten = c.self.inside.has_forgotten }) in
    on_err c.from_residual.result
    (subst At c.self.view_is
    (record {
      channel = c.in_err-applied.ensures.err;
      book = refl;
      has_forgotten = refl;
      sound = same_ledger c.lists_of_a_channel.ensures.unchanged c.same_lists_stay_settled.ensures
          c.self.inside.channel c.apply.new.self (g.B.Settle.shows c.self.inside.book) c.self.inside.has_forgotten c.in_err-applied.ensures.err c.self.invariant;
    }))
