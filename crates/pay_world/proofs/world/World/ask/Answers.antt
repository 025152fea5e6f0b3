use Rattle.std.proofs.Common.{◌≡◌, ◌<◌, ◌≤◌, length, slice_get, Some, option_and_then, IfOk, OnErr, sym, ap, ◌∙◌, subst, arith, rules}
use Rattle.std.proofs.lemmas.Grind.{common_steps}
use Rattle.std.proofs.lemmas.Option.{slice_get-get_or}
use Rattle.pay_world.specs.declared.event.WorldEvent.TheVariants.{Ask}
use Rattle.pay_world.specs.Setting.{HasFewFaulty}
use Rattle.pay_world.specs.declared.event.WorldFault.TheVariants.{Memory}
use Rattle.pay_world.specs.declared.event.WorldReply.TheVariants.{Ignored}
use Rattle.pay_world.specs.World.{WorldFields, member_in, setting_in}
use Rattle.pay_world.specs.Answer.{AnswersEvent, IsTakenBy}
use Rattle.pay_world.proofs.Forging.{on_fault}
use Rattle.pay_world.proofs.WorldLemmas.{few_lie, past_is_none}
use Rattle.pay_world.proofs.Answering.{ignored, with_place, ask_any}
use Rattle.pay_world.proofs.world.World.ask.Goals as goal

pub invariant_of-self : goal.invariant_of-self
invariant_of-self g c =
    let w : WorldFields = record { genesis = c.self.inside.genesis; liars = c.self.inside.liars; members = c.self.inside.members.items; answered = c.self.inside.answered } in
    let i = c.from-place.result in
    let few : HasFewFaulty (setting_in w) = few_lie c.sizes_of_sets.ensures.listed w.genesis w.liars c.self.invariant.genesis c.self.invariant.liars c.self.invariant.group in
    let inside : i < length w.members = first_of (omega arith, grind (arith, common_steps), search rules) in
    let here : slice_get w.members i ≡ Some c.index_mut.result.now = slice_get-get_or w.members i c.index_mut.result.now inside ∙ ap Some (sym c.index_mut.ensures.value) in
    (ask_any c.events_in_order.ensures.one_more c.correct_members_stand.ensures.action w i c.args.value c.index_mut.result.now c.ask_place.new.place c.ask_place.result
    c.self.invariant few here c.ask_place.ensures.reply c.ask_place.ensures.after c.ask_place.ensures.err).world

pub returns-clause-answers : goal.returns-clause-answers
returns-clause-answers g c =
    let w : WorldFields = record { genesis = c.self.inside.genesis; liars = c.self.inside.liars; members = c.self.inside.members.items; answered = c.self.inside.answered } in
    let i = c.from-place.result in
    let few : HasFewFaulty (setting_in w) = few_lie c.sizes_of_sets.ensures.listed w.genesis w.liars c.self.invariant.genesis c.self.invariant.liars c.self.invariant.group in
    let inside : i < length w.members = first_of (omega arith, grind (arith, common_steps), search rules) in
    let here : slice_get w.members i ≡ Some c.index_mut.result.now = slice_get-get_or w.members i c.index_mut.result.now inside ∙ ap Some (sym c.index_mut.ensures.value) in
    let any = ask_any c.events_in_order.ensures.one_more c.correct_members_stand.ensures.action w i c.args.value c.index_mut.result.now c.ask_place.new.place c.ask_place.result
    c.self.invariant few here c.ask_place.ensures.reply c.ask_place.ensures.after c.ask_place.ensures.err in
    let p = c.ask_place.new.place in
    subst (λ (x : WorldFields). IfOk c.ask_place.result (AnswersEvent x (with_place w i p) (Ask c.args.member c.args.value))) c.self.view_is
    (subst (λ n. IfOk c.ask_place.result (AnswersEvent w (with_place w i p) (Ask n c.args.value))) c.from-place.ensures any.answers)

pub returns-clause-err : goal.returns-clause-err
returns-clause-err g c =
    let w : WorldFields = record { genesis = c.self.inside.genesis; liars = c.self.inside.liars; members = c.self.inside.members.items; answered = c.self.inside.answered } in
    let i = c.from-place.result in
    let few : HasFewFaulty (setting_in w) = few_lie c.sizes_of_sets.ensures.listed w.genesis w.liars c.self.invariant.genesis c.self.invariant.liars c.self.invariant.group in
    let inside : i < length w.members = first_of (omega arith, grind (arith, common_steps), search rules) in
    let here : slice_get w.members i ≡ Some c.index_mut.result.now = slice_get-get_or w.members i c.index_mut.result.now inside ∙ ap Some (sym c.index_mut.ensures.value) in
    let any = ask_any c.events_in_order.ensures.one_more c.correct_members_stand.ensures.action w i c.args.value c.index_mut.result.now c.ask_place.new.place c.ask_place.result
    c.self.invariant few here c.ask_place.ensures.reply c.ask_place.ensures.after c.ask_place.ensures.err in
    subst (λ (x : WorldFields). OnErr c.ask_place.result (with_place w i c.ask_place.new.place ≡ x)) c.self.view_is any.err

pub returns-clause-memory : goal.returns-clause-memory
returns-clause-memory g c = λ lacks.
    let w : WorldFields = record { genesis = c.self.inside.genesis; liars = c.self.inside.liars; members = c.self.inside.members.items; answered = c.self.inside.answered } in
    let i = c.from-place.result in
    let inside : i < length w.members = first_of (omega arith, grind (arith, common_steps), search rules) in
    let here : slice_get w.members i ≡ Some c.index_mut.result.now = slice_get-get_or w.members i c.index_mut.result.now inside ∙ ap Some (sym c.index_mut.ensures.value) in
    let taken : IsTakenBy (Ask i c.args.value) c.index_mut.result.now = on_fault c.ask_place.result Memory lacks c.ask_place.ensures.taken in
    subst (λ (x : WorldFields). IsTakenBy (Ask c.args.member c.args.value) (member_in x c.args.member)) c.self.view_is
    (subst (λ n. IsTakenBy (Ask n c.args.value) (member_in w n)) c.from-place.ensures
    (subst (IsTakenBy (Ask i c.args.value)) (sym (ap (option_and_then (λ x. x)) here)) taken))

pub returns-then-place-len-clause-answers : goal.returns-then-place-len-clause-answers
returns-then-place-len-clause-answers g c =
    let w : WorldFields = record { genesis = c.self.inside.genesis; liars = c.self.inside.liars; members = c.self.inside.members.items; answered = c.self.inside.answered } in
    let i = c.from-place.result in
    let past : length w.members ≤ i = first_of (omega arith, grind (arith, common_steps), search rules) in
    subst (λ (x : WorldFields). AnswersEvent x x (Ask c.args.member c.args.value) Ignored) c.self.view_is
    (subst (λ n. AnswersEvent w w (Ask n c.args.value) Ignored) c.from-place.ensures (ignored w (Ask i c.args.value) (past_is_none w.members i past)))
