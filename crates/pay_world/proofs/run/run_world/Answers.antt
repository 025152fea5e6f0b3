use Rattle.std.proofs.Common.{◌≡◌, List, [], ◌∷◌, ◌++◌, length, Result, Err, IsOkUnless, MatchOption, refl, sym, ap, ◌∙◌, subst, arith, rules, append_assoc, append-nil, length-append}
use Rattle.std.proofs.lemmas.Grind.{common_steps}
use Rattle.std.specs.Vec.Iter.{into_iter_items}
use Rattle.pay_world.specs.declared.event.WorldEvent.{WorldEvent}
use Rattle.pay_world.specs.declared.event.WorldFault.{WorldFault}
use Rattle.pay_world.specs.declared.event.WorldFault.TheVariants.{Memory, Forged}
use Rattle.pay_world.specs.declared.event.WorldReply.{WorldReply}
use Rattle.pay_world.specs.Headline.{Headline}
use Rattle.pay_world.specs.Liars.{setting_of}
use Rattle.pay_world.specs.World.{IsWorld, fresh_world}
use Rattle.pay_world.specs.Answer.{forgery}
use Rattle.pay_world.specs.Run.{IsFirstForged, IsWorldAfter, actions_by}
use Rattle.pay_world.proofs.WorldLemmas.{few_lie}
use Rattle.pay_world.proofs.Running.{after_nothing, answered_unforged, refused_forged, after_one_more, forged_after}
use Rattle.pay_world.proofs.run.run_world.Goals as goal

nothing_left : {X : Type 0} (l : List X) → length l ≡ 0 → l ≡ []
nothing_left [] h = refl
nothing_left (x ∷ xs) h = absurd (omega arith)

pub loop-event-init : goal.loop-event-init
loop-event-init g c =
    let given = c.into_iter-event-iterator.ensures.into_iter_gives in
    record {
      after = subst (IsWorldAfter c.args.genesis.now c.args.keys.now c.args.liars.now []) (sym c.in_ok-world.ensures.value)
          (after_nothing c.histories_by_actions.ensures.first c.genuine_actions.ensures.first c.args.genesis.now c.args.keys.now c.args.liars.now c.requires.keys);
      items = given.0;
      left = first_of (search rules, grind (arith, common_steps));
      few = (let n = given.2 in omega arith);
    }

pub loop-event-preserved : goal.loop-event-preserved
loop-event-preserved g c =
    let at = c.loop-event in
    let e = c.in-Some.event in
    let steps : into_iter_items at.event-iterator ≡ e ∷ into_iter_items c.next.new.self = c.in-Some.ensures.steps.0 in
    let gone = c.in-Some.ensures.steps.1 in
    record {
      after = after_one_more c.args.genesis.now c.args.keys.now c.args.liars.now at.yielded at.world at.invariant.after
          c.histories_by_actions.ensures.one_more c.genuine_actions.ensures.one_more c.forged_is_told.ensures.forged c.apply.new.self e c.in_ok-apply.field-0
          c.in_ok-apply.ensures.answers (answered_unforged at.world e c.in_ok-apply.field-0 c.in_ok-apply.ensures.refused) c.in_ok-apply.ensures.count;
      items = append_assoc at.yielded (e ∷ []) _ ∙ rw (← steps) at.invariant.items;
      left = (let was = at.invariant.left in let short = ap length steps in omega arith);
      few = (let was = at.invariant.few in let long = length-append at.yielded (e ∷ []) in omega arith);
    }

pub returns-clause-after : goal.returns-clause-after
returns-clause-after g c =
    let at = c.loop-event in
    let none = c.in-None.ensures.steps in
    let empty : into_iter_items at.event-iterator ≡ [] = nothing_left _ (sym at.invariant.left ∙ none.0) in
    let all : at.yielded ≡ c.args.events.items = sym (append-nil at.yielded) ∙ rw empty at at.invariant.items in
    subst (λ l. IsWorldAfter c.args.genesis.now c.args.keys.now c.args.liars.now l at.world) all at.invariant.after

pub returns-clause-headline : goal.returns-clause-headline
returns-clause-headline g c =
    let at = c.loop-event in
    let none = c.in-None.ensures.steps in
    let empty : into_iter_items at.event-iterator ≡ [] = nothing_left _ (sym at.invariant.left ∙ none.0) in
    let all : at.yielded ≡ c.args.events.items = sym (append-nil at.yielded) ∙ rw empty at at.invariant.items in
    let is : IsWorld (fresh_world c.args.genesis.now c.args.keys.now c.args.liars.now) = subst IsWorld c.in_ok-world.ensures.value c.in_ok-world.ensures.limits in
    let few = few_lie c.sizes_of_sets.ensures.listed c.args.genesis.now c.args.liars.now is.genesis is.liars is.group in
    subst (λ l. Headline (setting_of c.args.liars.now) c.args.genesis.now.opening (actions_by c.args.keys.now c.args.liars.now l)) all
    (c.headline.ensures (setting_of c.args.liars.now) c.args.genesis.now.opening (actions_by c.args.keys.now c.args.liars.now at.yielded) few at.invariant.after.genuine)

pub returns-in_err-apply-clause-forged : goal.returns-in_err-apply-clause-forged
returns-in_err-apply-clause-forged g c =
    let at = c.loop-event in
    let e = c.in-Some.event in
    let steps : into_iter_items at.event-iterator ≡ e ∷ into_iter_items c.next.new.self = c.in-Some.ensures.steps.0 in
    let gone = c.in-Some.ensures.steps.1 in
    λ k same.
    let was : c.apply.result ≡ Err (Forged k) = first_of (cc, search rules, grind (arith, common_steps)) in
    let Told : Result WorldReply WorldFault → Type 0 = λ r. MatchOption (forgery at.world e) (IsOkUnless r Memory) (λ fault. r ≡ Err fault) in
    let told = refused_forged at.world e k (subst Told was c.apply.ensures.refused) in
    let here : k ≡ length at.yielded = (let n = told.1 in let m = at.invariant.after.count in let few = at.invariant.few in omega arith) in
    let items : at.yielded ++ e ∷ into_iter_items c.next.new.self ≡ c.args.events.items = rw (← steps) at.invariant.items in
    subst (λ (l : List WorldEvent). IsFirstForged c.args.keys.now c.args.liars.now l k) items
    (subst (IsFirstForged c.args.keys.now c.args.liars.now (at.yielded ++ e ∷ into_iter_items c.next.new.self)) (sym here)
    (forged_after c.args.genesis.now c.args.keys.now c.args.liars.now at.yielded at.world at.invariant.after c.forged_is_told.ensures.forged e (into_iter_items c.next.new.self) told.0))
