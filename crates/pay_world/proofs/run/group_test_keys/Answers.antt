use Rattle.std.proofs.Common.{◌≡◌, map, sym, ap, ◌∙◌, subst, arith}
use Rattle.std.specs.List.{range_with_len}
use Rattle.pay_link.specs.TestKeys.{test_keys_of}
use Rattle.pay_world.specs.World.{AreKeysOf}
use Rattle.pay_world.proofs.GroupKeyLemmas.{filled_more, test_keys_are}
use Rattle.pay_world.proofs.run.group_test_keys.Goals as goal

pub loop-member-preserved : goal.loop-member-preserved
loop-member-preserved c =
    filled_more (test_keys_of c.args.genesis.now.members) _ _ _ _ c.loop-member.invariant c.in_ok-test_keys.ensures.value c.in_ok-push.ensures.items

pub returns-clause-genesis : goal.returns-clause-genesis
returns-clause-genesis c =
    let all : c.loop-member.member ≡ c.args.genesis.now.members = (let n = c.members-members.ensures.value in omega arith) in
    subst (AreKeysOf c.args.genesis.now)
    (sym (c.loop-member.invariant ∙ ap (λ n. map (test_keys_of c.args.genesis.now.members) (range_with_len 0 n)) all))
    (test_keys_are c.args.genesis.now)
