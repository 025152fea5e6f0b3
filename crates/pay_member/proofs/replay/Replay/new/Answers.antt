use Rattle.std.proofs.Common.{rules, ◌≡◌, ℕ, [], Option, None, replicate, ap, ◌∙◌, subst}
use Rattle.pay_link.specs.Genesis.{GenesisFields}
use Rattle.pay_link.specs.Keys.{KeyFields}
use Rattle.pay_member.specs.declared.ledger.Lie.{Lie}
use Rattle.pay_member.specs.Ledger.{Tracks}
use Rattle.pay_member.proofs.LiesFound.{found_at_first}
use Rattle.pay_member.proofs.Replays.{replay_fresh}
use Rattle.pay_member.proofs.replay.Replay.new.Goals as goal

pub invariant_of-result : goal.invariant_of-result
invariant_of-result g c =
    let items : c.in_ok-lies.lies.items ≡ replicate {A = Option Lie} c.from.result None = search rules in
    let members = ap (λ (x : GenesisFields). x.members) c.genesis-genesis.ensures.value in
    replay_fresh c.nothing_at_first.ensures.taken c.nothing_at_first.ensures.lists c.args.member.now c.own.result c.in_ok-ledger.ledger c.in_ok-fronts.fronts c.in_ok-lies.lies.items
    c.genesis-genesis.ensures.limits c.keys.ensures.limits
    (c.own.ensures.value ∙ ap (λ (k : KeyFields). k.own) c.keys.ensures.value)
    (subst (λ (x : GenesisFields). Tracks x c.own.result [] c.in_ok-ledger.ledger) c.genesis-genesis.ensures.value c.in_ok-ledger.ensures.tracks)
    c.in_ok-ledger.ensures.fresh
    (c.in_ok-fronts.ensures ∙ ap (λ n. replicate n 0) (c.members.ensures.value ∙ members))
    (found_at_first c.args.member.now.genesis.members c.in_ok-lies.lies.items
    (items ∙ ap (λ (n : ℕ). replicate {A = Option Lie} n None) (c.from.ensures ∙ c.members-2.ensures.value ∙ members)))
