use Rattle.std.proofs.Common.{[], false, subst, sym}
use Rattle.pay_book.specs.Book.{Standing}
use Rattle.pay_member.specs.Ledger.{IsLedger, Tracks}
use Rattle.pay_member.proofs.Ledgers.{fresh_ledger}
use Rattle.pay_member.proofs.ledger.Ledger.new.Goals as goal

pub invariant_of-result : goal.invariant_of-result
invariant_of-result g c =
    let At : Standing → Type 0 = λ b. IsLedger (record { channel = c.in_ok-channel.channel; book = b; has_forgotten = false }) in
    subst At (sym c.in_ok-book.ensures)
    (fresh_ledger c.nothing_at_first.ensures.lists c.a_channel_follows.ensures.lists c.fresh_book_is_settled.ensures
    c.args.genesis.now c.args.own c.in_ok-channel.channel c.members.ensures.limits c.in_ok-channel.ensures.follows
    (cc (c.in_ok-channel.ensures.group, c.members.ensures.value, c.faults.ensures.value))).sound

pub returns-clause-tracks : goal.returns-clause-tracks
returns-clause-tracks g c =
    let At : Standing → Type 0 = λ b. Tracks c.args.genesis.now c.args.own [] (record { channel = c.in_ok-channel.channel; book = b; has_forgotten = false }) in
    subst At (sym c.in_ok-book.ensures)
    (fresh_ledger c.nothing_at_first.ensures.lists c.a_channel_follows.ensures.lists c.fresh_book_is_settled.ensures
    c.args.genesis.now c.args.own c.in_ok-channel.channel c.members.ensures.limits c.in_ok-channel.ensures.follows
    (cc (c.in_ok-channel.ensures.group, c.members.ensures.value, c.faults.ensures.value)))
