use Rattle.std.proofs.Common.{◌≡◌, ◌<◌, ◌≤◌, length, slice_get, Some, option_and_then, false, IfOk, OnErr, sym, ap, ◌∙◌, subst, arith, rules}
use Rattle.std.proofs.lemmas.Grind.{common_steps}
use Rattle.std.proofs.lemmas.Option.{slice_get-get_or}
use Rattle.pay_world.specs.declared.event.WorldEvent.TheVariants.{Bring}
use Rattle.pay_world.specs.Setting.{HasFewFaulty}
use Rattle.pay_world.specs.declared.event.WorldFault.TheVariants.{Memory}
use Rattle.pay_world.specs.declared.event.WorldReply.TheVariants.{Ignored}
use Rattle.pay_world.specs.World.{WorldFields, member_in, setting_in}
use Rattle.pay_world.specs.Answer.{AnswersEvent, IsTakenBy, is_forged_at}
use Rattle.pay_world.proofs.Forging.{on_fault}
use Rattle.pay_world.proofs.WorldLemmas.{few_lie, past_is_none}
use Rattle.pay_world.proofs.Answering.{ignored, with_place, bring_any}
use Rattle.pay_world.proofs.world.World.bring.Goals as goal

pub invariant_of-self : goal.invariant_of-self
invariant_of-self g c =
    let w : WorldFields = record { genesis = c.self.inside.genesis; liars = c.self.inside.liars; members = c.self.inside.members.items; answered = c.self.inside.answered } in
    let i = c.from-place.result in
    let few : HasFewFaulty (setting_in w) = few_lie c.sizes_of_sets.ensures.listed w.genesis w.liars c.self.invariant.genesis c.self.invariant.liars c.self.invariant.group in
    let inside : i < length w.members = first_of (omega arith, grind (arith, common_steps), search rules) in
    let here : slice_get w.members i ≡ Some c.index_mut.result.now = slice_get-get_or w.members i c.index_mut.result.now inside ∙ ap Some (sym c.index_mut.ensures.value) in
    let unforged : is_forged_at w (Bring i c.args.bytes.now) ≡ false =
    subst (λ n. is_forged_at w (Bring n c.args.bytes.now) ≡ false) (sym c.from-place.ensures)
    (subst (λ (x : WorldFields). is_forged_at x (Bring c.args.member c.args.bytes.now) ≡ false) (sym c.self.view_is) (sym c.is_forged.ensures ∙ c.if-is_forged.false)) in
    (bring_any c.what_opens.ensures c.forged_is_told.ensures.forged c.correct_members_stand.ensures.action w i c.args.bytes.now c.index_mut.result.now c.bring_place.new.place c.bring_place.result
    c.self.invariant few here unforged c.bring_place.ensures.reply c.bring_place.ensures.after c.bring_place.ensures.grown c.bring_place.ensures.err).world

pub returns-clause-answers : goal.returns-clause-answers
returns-clause-answers g c =
    let w : WorldFields = record { genesis = c.self.inside.genesis; liars = c.self.inside.liars; members = c.self.inside.members.items; answered = c.self.inside.answered } in
    let i = c.from-place.result in
    let few : HasFewFaulty (setting_in w) = few_lie c.sizes_of_sets.ensures.listed w.genesis w.liars c.self.invariant.genesis c.self.invariant.liars c.self.invariant.group in
    let inside : i < length w.members = first_of (omega arith, grind (arith, common_steps), search rules) in
    let here : slice_get w.members i ≡ Some c.index_mut.result.now = slice_get-get_or w.members i c.index_mut.result.now inside ∙ ap Some (sym c.index_mut.ensures.value) in
    let unforged : is_forged_at w (Bring i c.args.bytes.now) ≡ false =
    subst (λ n. is_forged_at w (Bring n c.args.bytes.now) ≡ false) (sym c.from-place.ensures)
    (subst (λ (x : WorldFields). is_forged_at x (Bring c.args.member c.args.bytes.now) ≡ false) (sym c.self.view_is) (sym c.is_forged.ensures ∙ c.if-is_forged.false)) in
    let any = bring_any c.what_opens.ensures c.forged_is_told.ensures.forged c.correct_members_stand.ensures.action w i c.args.bytes.now c.index_mut.result.now c.bring_place.new.place c.bring_place.result
    c.self.invariant few here unforged c.bring_place.ensures.reply c.bring_place.ensures.after c.bring_place.ensures.grown c.bring_place.ensures.err in
    let p = c.bring_place.new.place in
    subst (λ (x : WorldFields). IfOk c.bring_place.result (AnswersEvent x (with_place w i p) (Bring c.args.member c.args.bytes.now))) c.self.view_is
    (subst (λ n. IfOk c.bring_place.result (AnswersEvent w (with_place w i p) (Bring n c.args.bytes.now))) c.from-place.ensures any.answers)

pub returns-clause-err : goal.returns-clause-err
returns-clause-err g c =
    let w : WorldFields = record { genesis = c.self.inside.genesis; liars = c.self.inside.liars; members = c.self.inside.members.items; answered = c.self.inside.answered } in
    let i = c.from-place.result in
    let few : HasFewFaulty (setting_in w) = few_lie c.sizes_of_sets.ensures.listed w.genesis w.liars c.self.invariant.genesis c.self.invariant.liars c.self.invariant.group in
    let inside : i < length w.members = first_of (omega arith, grind (arith, common_steps), search rules) in
    let here : slice_get w.members i ≡ Some c.index_mut.result.now = slice_get-get_or w.members i c.index_mut.result.now inside ∙ ap Some (sym c.index_mut.ensures.value) in
    let unforged : is_forged_at w (Bring i c.args.bytes.now) ≡ false =
    subst (λ n. is_forged_at w (Bring n c.args.bytes.now) ≡ false) (sym c.from-place.ensures)
    (subst (λ (x : WorldFields). is_forged_at x (Bring c.args.member c.args.bytes.now) ≡ false) (sym c.self.view_is) (sym c.is_forged.ensures ∙ c.if-is_forged.false)) in
    let any = bring_any c.what_opens.ensures c.forged_is_told.ensures.forged c.correct_members_stand.ensures.action w i c.args.bytes.now c.index_mut.result.now c.bring_place.new.place c.bring_place.result
    c.self.invariant few here unforged c.bring_place.ensures.reply c.bring_place.ensures.after c.bring_place.ensures.grown c.bring_place.ensures.err in
    subst (λ (x : WorldFields). OnErr c.bring_place.result (with_place w i c.bring_place.new.place ≡ x)) c.self.view_is any.err

pub returns-clause-memory : goal.returns-clause-memory
returns-clause-memory g c = λ lacks.
    let w : WorldFields = record { genesis = c.self.inside.genesis; liars = c.self.inside.liars; members = c.self.inside.members.items; answered = c.self.inside.answered } in
    let i = c.from-place.result in
    let inside : i < length w.members = first_of (omega arith, grind (arith, common_steps), search rules) in
    let here : slice_get w.members i ≡ Some c.index_mut.result.now = slice_get-get_or w.members i c.index_mut.result.now inside ∙ ap Some (sym c.index_mut.ensures.value) in
    let taken : IsTakenBy (Bring i c.args.bytes.now) c.index_mut.result.now = on_fault c.bring_place.result Memory lacks c.bring_place.ensures.taken in
    subst (λ (x : WorldFields). IsTakenBy (Bring c.args.member c.args.bytes.now) (member_in x c.args.member)) c.self.view_is
    (subst (λ n. IsTakenBy (Bring n c.args.bytes.now) (member_in w n)) c.from-place.ensures
    (subst (IsTakenBy (Bring i c.args.bytes.now)) (sym (ap (option_and_then (λ x. x)) here)) taken))

pub returns-then-place-len-clause-answers : goal.returns-then-place-len-clause-answers
returns-then-place-len-clause-answers g c =
    let w : WorldFields = record { genesis = c.self.inside.genesis; liars = c.self.inside.liars; members = c.self.inside.members.items; answered = c.self.inside.answered } in
    let i = c.from-place.result in
    let past : length w.members ≤ i = first_of (omega arith, grind (arith, common_steps), search rules) in
    subst (λ (x : WorldFields). AnswersEvent x x (Bring c.args.member c.args.bytes.now) Ignored) c.self.view_is
    (subst (λ n. AnswersEvent w w (Bring n c.args.bytes.now) Ignored) c.from-place.ensures (ignored w (Bring i c.args.bytes.now) (past_is_none w.members i past)))
