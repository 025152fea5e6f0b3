use Rattle.std.proofs.Common.{◌≡◌, ◌<◌, ◌≤◌, length, map, ap, ◌∙◌, arith}
use Rattle.std.proofs.lemmas.List.{take_all}
use Rattle.serde_json.proofs.Views.{view-Array}
use Rattle.serde_json.specs.Data.{array}
use Rattle.serde_json.specs.View.{items_of}
use Rattle.pay_link.specs.Genesis.{GenesisFields}
use Rattle.pay_member.specs.Events.{events}
use Rattle.pay_member.specs.Book.{book_after}
use Rattle.pay_audit.specs.Exporting.{number_data}
use Rattle.pay_audit.proofs.Pushing.{fronts, next_number}
use Rattle.pay_audit.proofs.exporting.front_of.Goals as goal

pub loop-account-preserved : goal.loop-account-preserved
loop-account-preserved g c =
    let m = c.args.member.now in
    let list = (book_after m.genesis m.keys.own (events m.history)).front in
    let count : length list ≡ m.genesis.members = fronts c.book_of_events.ensures.settled m.genesis m.keys.own (events m.history) c.genesis.ensures.limits in
    let has : c.loop-account.account < length list = omega (arith, count, c.loop-account-test.true, c.members-account-end.ensures.value, ap (λ (x : GenesisFields). x.members) c.genesis.ensures.value) in
    next_number list c.loop-account.account c.loop-account.front.items c.push.new.self.items c.from-in-loop-account.result
    has c.loop-account.invariant c.in_ok-push.ensures.items (c.from-in-loop-account.ensures ∙ ap number_data (c.from.ensures ∙ c.front.ensures))

pub returns : goal.returns
returns g c =
    let m = c.args.member.now in
    let list = (book_after m.genesis m.keys.own (events m.history)).front in
    let count : length list ≡ m.genesis.members = fronts c.book_of_events.ensures.settled m.genesis m.keys.own (events m.history) c.genesis.ensures.limits in
    let all : length list ≤ c.loop-account.account = omega (arith, count, c.loop-account-test.false, c.members-account-end.ensures.value, ap (λ (x : GenesisFields). x.members) c.genesis.ensures.value) in
    view-Array c.loop-account.front ∙ ap (λ ds. array (items_of ds)) (c.loop-account.invariant ∙ ap (map number_data) (take_all c.loop-account.account list all))
