use Rattle.std.proofs.Common.{◌≡◌, ◌≢◌, max, eqb, length, subst, sym, ◌∙◌, arith}
use Rattle.std.proofs.lemmas.Bool.{eq-eqb, ne_eqb, cond-true, cond-false}
use Rattle.pay_channel.specs.State.{channel_lists}
use Rattle.pay_member.specs.Events.{events}
use Rattle.pay_member.specs.Member.{MemberFields}
use Rattle.pay_member.specs.Reading.{values_known}
use Rattle.pay_member.proofs.KnownLists.{known_count_is}
use Rattle.pay_member.proofs.view.MemberView.known_count.Goals as goal

pub returns-then-account-own : goal.returns-then-account-own
returns-then-account-own g c =
    let own = c.self.inside.keys.now.own in
    let ledger = c.self.inside.ledger.now in
    let listed = length (channel_lists ledger.channel c.args.account) in
    let At : MemberFields → Type 0 = λ m. c.max.result ≡ length (values_known m.genesis m.keys.own (events m.history) c.args.account) in
    let same : c.args.account ≡ own = c.if-account-own.true ∙ c.own.ensures.value in
    let most : c.max.result ≡ max listed ledger.channel.asks = omega (arith, c.max.ensures, c.list_len-listed.ensures, c.asks.ensures) in
    subst At c.self.view_is
    (known_count_is c.self.inside.genesis.now own (events c.self.inside.history.now) ledger c.self.invariant.tracks c.a_channel_follows.ensures.lists c.args.account
    c.sends_are_asks.ensures.counted c.max.result (most ∙ sym (cond-true (eqb c.args.account own) (max listed ledger.channel.asks) listed (eq-eqb c.args.account own same))))

pub returns-else-account-own : goal.returns-else-account-own
returns-else-account-own g c =
    let own = c.self.inside.keys.now.own in
    let ledger = c.self.inside.ledger.now in
    let listed = length (channel_lists ledger.channel c.args.account) in
    let At : MemberFields → Type 0 = λ m. c.list_len-listed.result ≡ length (values_known m.genesis m.keys.own (events m.history) c.args.account) in
    let other : c.args.account ≢ own = λ e. c.if-account-own.false (e ∙ sym c.own.ensures.value) in
    subst At c.self.view_is
    (known_count_is c.self.inside.genesis.now own (events c.self.inside.history.now) ledger c.self.invariant.tracks c.a_channel_follows.ensures.lists c.args.account
    c.sends_are_asks.ensures.counted c.list_len-listed.result
    (c.list_len-listed.ensures ∙ sym (cond-false (eqb c.args.account own) (max listed ledger.channel.asks) listed (ne_eqb c.args.account own other))))
