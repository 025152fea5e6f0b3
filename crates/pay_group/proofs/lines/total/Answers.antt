use Rattle.std.proofs.Common.{◌≤◌, length, ap, ◌∙◌, arith}
use Rattle.std.specs.Prelude.{sum}
use Rattle.std.proofs.lemmas.List.{take_all}
use Rattle.pay_link.specs.Genesis.{GenesisFields}
use Rattle.pay_group.proofs.lines.total.Goals as goal

pub returns : goal.returns
returns c =
    let balances = c.args.book.now.balances in
    let members = ap (λ (g : GenesisFields). g.members) c.genesis.ensures in
    let all : length balances ≤ c.loop-account.account =
    omega (arith, c.loop-account-test.false, c.members-account-end.ensures.value, members, c.requires.count) in
    c.loop-account.invariant ∙ ap sum (take_all c.loop-account.account balances all)
