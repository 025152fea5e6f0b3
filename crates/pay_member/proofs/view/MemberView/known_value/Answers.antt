use Rattle.std.proofs.Common.{◌≡◌, Some, ◌≤◌, ◌<◌, ℕ, List, length, slice_get, subst, ap, sym, ◌∙◌, arith}
use Rattle.std.specs.Option.{option_copied}
use Rattle.pay_channel.specs.State.{channel_lists}
use Rattle.pay_member.specs.Events.{events}
use Rattle.pay_member.specs.Member.{MemberFields}
use Rattle.pay_member.specs.Reading.{values_known}
use Rattle.pay_member.proofs.Histories.{events_may_come}
use Rattle.pay_member.proofs.KnownLists.{known_in_list, known_behind_list, known_is_there}
use Rattle.pay_member.proofs.view.MemberView.known_value.Goals as goal

abbrev values_of : MemberFields → ℕ → List (List ℕ)
values_of m account = values_known m.genesis m.keys.own (events m.history) account

pub returns-then-seq-list_len : goal.returns-then-seq-list_len
returns-then-seq-list_len g c =
    let ledger = c.self.inside.ledger.now in
    let At : MemberFields → Type 0 = λ m. slice_get (values_of m c.args.account) c.args.seq ≡ Some c.value.result.now in
    subst At c.self.view_is
    (known_in_list c.self.inside.genesis.now c.self.inside.keys.now.own (events c.self.inside.history.now) ledger c.self.invariant.tracks c.a_channel_follows.ensures.lists
    c.args.account c.args.seq (omega (arith, c.if-seq-list_len.true, c.list_len.ensures)) ∙ c.value.ensures)

pub unwrap-requires : goal.unwrap-requires
unwrap-requires g c =
    let genesis = c.self.inside.genesis.now in
    let keys = c.self.inside.keys.now in
    let history = c.self.inside.history.now in
    let ledger = c.self.inside.ledger.now in
    let within : MemberFields → Type 0 = λ m. c.args.seq < length (values_of m c.args.account) in
    let below = subst within (sym c.self.view_is) c.requires in
    let past : length (channel_lists ledger.channel c.args.account) ≤ c.args.seq = omega (arith, c.if-seq-list_len.false, c.list_len.ensures) in
    known_is_there (values_known genesis keys.own (events history) c.args.account) c.args.seq c.echoed.result below
    (c.echoed.ensures
    ∙ known_behind_list genesis keys.own (events history) ledger c.self.invariant.tracks c.a_channel_follows.ensures.lists c.args.account
    c.sends_are_asks.ensures.echo (events_may_come genesis keys history c.self.invariant.keys c.self.invariant.legal) c.args.seq past below)

pub returns-else-seq-list_len : goal.returns-else-seq-list_len
returns-else-seq-list_len g c =
    let genesis = c.self.inside.genesis.now in
    let keys = c.self.inside.keys.now in
    let history = c.self.inside.history.now in
    let ledger = c.self.inside.ledger.now in
    let within : MemberFields → Type 0 = λ m. c.args.seq < length (values_of m c.args.account) in
    let below = subst within (sym c.self.view_is) c.requires in
    let past : length (channel_lists ledger.channel c.args.account) ≤ c.args.seq = omega (arith, c.if-seq-list_len.false, c.list_len.ensures) in
    let At : MemberFields → Type 0 = λ m. slice_get (values_of m c.args.account) c.args.seq ≡ Some c.unwrap.result.now in
    subst At c.self.view_is
    (sym (known_behind_list genesis keys.own (events history) ledger c.self.invariant.tracks c.a_channel_follows.ensures.lists c.args.account
    c.sends_are_asks.ensures.echo (events_may_come genesis keys history c.self.invariant.keys c.self.invariant.legal) c.args.seq past below)
    ∙ sym c.echoed.ensures ∙ ap option_copied c.unwrap.ensures)
