use Rattle.std.proofs.Common.{◌<◌, ◌≤◌, length, map, ap, ◌∙◌, arith}
use Rattle.std.proofs.lemmas.List.{take_all}
use Rattle.serde_json.proofs.Views.{view-Array}
use Rattle.serde_json.specs.Data.{array}
use Rattle.serde_json.specs.View.{items_of}
use Rattle.pay_audit.specs.Exporting.{number_data}
use Rattle.pay_audit.proofs.Pushing.{next_number}
use Rattle.pay_audit.proofs.exporting.opening_of.Goals as goal

pub loop-account-preserved : goal.loop-account-preserved
loop-account-preserved c =
    let list = c.args.genesis.now.opening in
    let has : c.loop-account.account < length list = omega (arith, c.opening.ensures.limits.opening, c.loop-account-test.true, c.members-account-end.ensures.value) in
    next_number list c.loop-account.account c.loop-account.numbers.items c.push.new.self.items c.from.result
    has c.loop-account.invariant c.in_ok-push.ensures.items (c.from.ensures ∙ ap number_data c.opening.ensures.value)

pub returns : goal.returns
returns c =
    let list = c.args.genesis.now.opening in
    let all : length list ≤ c.loop-account.account = omega (arith, c.members-account-end.ensures.limits.opening, c.loop-account-test.false, c.members-account-end.ensures.value) in
    view-Array c.loop-account.numbers ∙ ap (λ ds. array (items_of ds)) (c.loop-account.invariant ∙ ap (map number_data) (take_all c.loop-account.account list all))
