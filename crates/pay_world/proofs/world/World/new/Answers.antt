use Rattle.std.proofs.Common.{◌≡◌, List, Option, get_or, map, sym, ap, ◌∙◌, subst, arith, rules}
use Rattle.std.proofs.lemmas.Grind.{common_steps}
use Rattle.std.proofs.lemmas.List.{take_all}
use Rattle.std.proofs.lemmas.Option.{slice_get-get_or}
use Rattle.pay_link.specs.Genesis.{GenesisFields}
use Rattle.pay_link.specs.Keys.{IsKeysOf}
use Rattle.pay_member.specs.Member.{MemberFields}
use Rattle.pay_world.specs.Liars.{LiarFields}
use Rattle.pay_world.specs.World.{IsWorld, fresh_place}
use Rattle.pay_world.proofs.WorldLemmas.{fresh_is_world, placed_more}
use Rattle.pay_world.proofs.world.World.new.Goals as goal

pub fresh_place-requires : goal.fresh_place-requires
fresh_place-requires g c =
    let is : c.keys-item.result ≡ get_or c.args.keys.now c.loop-keys.keys-index c.keys-item.result = first_of (search rules, grind arith) in
    subst (IsKeysOf c.args.genesis.now) (sym is)
    (c.requires.keys.of c.loop-keys.keys-index _ (slice_get-get_or c.args.keys.now c.loop-keys.keys-index c.keys-item.result c.loop-keys-test.true))

pub loop-keys-preserved : goal.loop-keys-preserved
loop-keys-preserved g c =
    let is : c.keys-item.result ≡ get_or c.args.keys.now c.loop-keys.keys-index c.keys-item.result = first_of (search rules, grind arith) in
    placed_more (fresh_place c.args.genesis.now c.args.liars.now) c.args.keys.now c.loop-keys.keys-index c.keys-item.result c.loop-keys.members.items _ _
    c.loop-keys-test.true c.loop-keys.invariant (c.in_ok-fresh_place.ensures ∙ ap (fresh_place c.args.genesis.now c.args.liars.now) is) c.in_ok-push.ensures.items

pub invariant_of-result : goal.invariant_of-result
invariant_of-result g c =
    let members : c.loop-keys.members.items ≡ map (fresh_place c.args.genesis.now c.args.liars.now) c.args.keys.now =
    c.loop-keys.invariant ∙ ap (map (fresh_place c.args.genesis.now c.args.liars.now)) (take_all c.loop-keys.keys-index c.args.keys.now (omega arith)) in
    let At : GenesisFields → LiarFields → List (Option MemberFields) → Type 0 = λ genesis liars members. IsWorld (record { genesis = genesis; liars = liars; members = members; answered = 0 }) in
    let first : At c.args.genesis.now c.args.liars.now (map (fresh_place c.args.genesis.now c.args.liars.now) c.args.keys.now) =
    fresh_is_world c.args.genesis.now c.args.keys.now c.args.liars.now c.members.ensures.limits c.copy-2.ensures.limits c.requires.liars c.requires.keys c.correct_members_stand.ensures.first in
    subst (λ x. At x c.in_ok-copy-2.field-0 c.loop-keys.members.items) (sym c.in_ok-copy.ensures)
    (subst (λ x. At c.args.genesis.now x c.loop-keys.members.items) (sym c.in_ok-copy-2.ensures.value)
    (subst (At c.args.genesis.now c.args.liars.now) (sym members) first))

pub returns-clause-limits : goal.returns-clause-limits
returns-clause-limits g c =
    let members : c.loop-keys.members.items ≡ map (fresh_place c.args.genesis.now c.args.liars.now) c.args.keys.now =
    c.loop-keys.invariant ∙ ap (map (fresh_place c.args.genesis.now c.args.liars.now)) (take_all c.loop-keys.keys-index c.args.keys.now (omega arith)) in
    let At : GenesisFields → LiarFields → List (Option MemberFields) → Type 0 = λ genesis liars members. IsWorld (record { genesis = genesis; liars = liars; members = members; answered = 0 }) in
    let first : At c.args.genesis.now c.args.liars.now (map (fresh_place c.args.genesis.now c.args.liars.now) c.args.keys.now) =
    fresh_is_world c.args.genesis.now c.args.keys.now c.args.liars.now c.members.ensures.limits c.copy-2.ensures.limits c.requires.liars c.requires.keys c.correct_members_stand.ensures.first in
    subst (λ x. At x c.in_ok-copy-2.field-0 c.loop-keys.members.items) (sym c.in_ok-copy.ensures)
    (subst (λ x. At c.args.genesis.now x c.loop-keys.members.items) (sym c.in_ok-copy-2.ensures.value)
    (subst (At c.args.genesis.now c.args.liars.now) (sym members) first))

pub returns-clause-value : goal.returns-clause-value
returns-clause-value g c = grind (arith, common_steps)
