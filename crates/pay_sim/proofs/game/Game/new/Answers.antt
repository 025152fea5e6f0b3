use Rattle.std.proofs.Common.{◌≡◌, ◌<◌, List, [], sym, subst, ap, refl, ◌∙◌, arith}
use Rattle.pay_link.specs.Keys.{KeyFields}
use Rattle.pay_world.specs.World.{WorldFields, AreKeysOf, fresh_world}
use Rattle.pay_world.specs.Run.{IsWorldAfter}
use Rattle.pay_sim.proofs.game.Game.new.Goals as goal

pub invariant_of-result : goal.invariant_of-result
invariant_of-result g c =
    let group = c.args.group.now in
    let keys = c.as_slice.ensures.value ∙ c.in_ok-keys.ensures.value in
    let world = c.in_ok-world.ensures in
    let is : c.in_ok-world.world ≡ fresh_world group.genesis _ group.liars = world.value ∙ ap (λ (k : List KeyFields). fresh_world group.genesis k group.liars) keys in
    let given : AreKeysOf group.genesis _ = subst (AreKeysOf group.genesis) c.in_ok-keys.ensures.value c.in_ok-keys.ensures.genesis in
    let fresh = c.world_by_events.ensures.first group.genesis _ group.liars given in
    let few : c.members-members.result < 256 = (let few = c.members-members.ensures.limits.few in omega arith) in (
      omega arith,
      few,
      record {
        group = group;
        events = [];
        behind = record {
          after = subst (IsWorldAfter group.genesis _ group.liars []) (sym is) fresh;
          each = λ i m at. (world.limits.each i m at).genesis ∙ ap (λ (w : WorldFields). w.genesis) is;
          members = c.members-members.ensures.value;
          few = (let few = c.members-members.ensures.limits.few in omega arith);
          made = refl;
        };
      },
    )

pub returns : goal.returns
returns g c =
    let group = c.args.group.now in
    let keys = c.as_slice.ensures.value ∙ c.in_ok-keys.ensures.value in
    let world = c.in_ok-world.ensures in
    let is : c.in_ok-world.world ≡ fresh_world group.genesis _ group.liars = world.value ∙ ap (λ (k : List KeyFields). fresh_world group.genesis k group.liars) keys in
    let given : AreKeysOf group.genesis _ = subst (AreKeysOf group.genesis) c.in_ok-keys.ensures.value c.in_ok-keys.ensures.genesis in
    let fresh = c.world_by_events.ensures.first group.genesis _ group.liars given in
    record {
      after = subst (IsWorldAfter group.genesis _ group.liars []) (sym is) fresh;
      each = λ i m at. (world.limits.each i m at).genesis ∙ ap (λ (w : WorldFields). w.genesis) is;
      members = c.members-members.ensures.value;
      few = (let few = c.members-members.ensures.limits.few in omega arith);
      made = refl;
    }
