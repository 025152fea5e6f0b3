use Rattle.std.proofs.Common.{◌≡◌, ℕ, ◌<◌, List, length, slice_get, Some, false, IfOk, OnErr, sym, ap, ◌∙◌, subst, arith, rules}
use Rattle.std.proofs.lemmas.Grind.{common_steps}
use Rattle.std.proofs.lemmas.Option.{slice_get-get_or}
use Rattle.pay_link.specs.Checked.{IsFor, bytes_of}
use Rattle.pay_member.specs.Member.{MemberFields}
use Rattle.pay_world.specs.declared.event.WorldEvent.TheVariants.{Bring}
use Rattle.pay_world.specs.Setting.{HasFewFaulty}
use Rattle.pay_world.specs.World.{WorldFields, member_in, setting_in}
use Rattle.pay_world.specs.Answer.{AnswersEvent, is_forged_at}
use Rattle.pay_world.proofs.WorldLemmas.{few_lie}
use Rattle.pay_world.proofs.Answering.{with_place, bring_any}
use Rattle.pay_world.proofs.Passing.{is_below, place_is_for}
use Rattle.pay_world.proofs.world.World.hand_on.Goals as goal

pub index_mut-requires : goal.index_mut-requires
index_mut-requires g c =
    let w : WorldFields = record { genesis = c.self.inside.genesis; liars = c.self.inside.liars; members = c.self.inside.members.items; answered = c.self.inside.answered } in
    let i = c.from.result in
    let takes : member_in w c.args.to ≡ Some c.requires.taker = subst (λ (x : WorldFields). member_in x c.args.to ≡ Some c.requires.taker) (sym c.self.view_is) c.requires.sends.takes in
    let below : i < length w.members = subst (λ n. n < length w.members) (sym c.from.ensures) (is_below w c.args.to c.requires.taker c.self.invariant takes) in
    first_of (omega arith, grind (arith, common_steps), search rules)

pub pass_place-requires : goal.pass_place-requires
pass_place-requires g c =
    let w : WorldFields = record { genesis = c.self.inside.genesis; liars = c.self.inside.liars; members = c.self.inside.members.items; answered = c.self.inside.answered } in
    let i = c.from.result in
    let takes : member_in w c.args.to ≡ Some c.requires.taker = subst (λ (x : WorldFields). member_in x c.args.to ≡ Some c.requires.taker) (sym c.self.view_is) c.requires.sends.takes in
    let inside : i < length w.members = subst (λ n. n < length w.members) (sym c.from.ensures) (is_below w c.args.to c.requires.taker c.self.invariant takes) in
    let here : slice_get w.members i ≡ Some c.index_mut.result.now = slice_get-get_or w.members i c.index_mut.result.now inside ∙ ap Some (sym c.index_mut.ensures.value) in
    let For : WorldFields → ℕ → Type 0 = λ x n. (taker : MemberFields) → member_in x n ≡ Some taker → IsFor taker.keys c.in_ok-checked.checked in
    let mine : For w i = subst (For w) (sym c.from.ensures) (subst (λ x. For x c.args.to) (sym c.self.view_is) c.in_ok-checked.ensures.mine) in
    place_is_for w.members i c.index_mut.result.now c.in_ok-checked.checked here mine

pub invariant_of-self : goal.invariant_of-self
invariant_of-self g c =
    let w : WorldFields = record { genesis = c.self.inside.genesis; liars = c.self.inside.liars; members = c.self.inside.members.items; answered = c.self.inside.answered } in
    let i = c.from.result in
    let takes : member_in w c.args.to ≡ Some c.requires.taker = subst (λ (x : WorldFields). member_in x c.args.to ≡ Some c.requires.taker) (sym c.self.view_is) c.requires.sends.takes in
    let inside : i < length w.members = subst (λ n. n < length w.members) (sym c.from.ensures) (is_below w c.args.to c.requires.taker c.self.invariant takes) in
    let here : slice_get w.members i ≡ Some c.index_mut.result.now = slice_get-get_or w.members i c.index_mut.result.now inside ∙ ap Some (sym c.index_mut.ensures.value) in
    let bytes = bytes_of c.in_ok-checked.checked in
    let few : HasFewFaulty (setting_in w) = few_lie c.sizes_of_sets.ensures.listed w.genesis w.liars c.self.invariant.genesis c.self.invariant.liars c.self.invariant.group in
    let unforged : is_forged_at w (Bring i bytes) ≡ false =
    subst (λ n. is_forged_at w (Bring n bytes) ≡ false) (sym c.from.ensures)
    (subst (λ (x : WorldFields). is_forged_at x (Bring c.args.to bytes) ≡ false) (sym c.self.view_is)
    (subst (λ (l : List ℕ). is_forged_at c.args.self.now (Bring c.args.to l) ≡ false) (sym c.in_ok-checked.ensures.bytes) c.out_of_turn.ensures.unforged)) in
    (bring_any c.what_opens.ensures c.forged_is_told.ensures.forged c.correct_members_stand.ensures.action w i bytes c.index_mut.result.now c.pass_place.new.place c.pass_place.result
    c.self.invariant few here unforged c.pass_place.ensures.reply c.pass_place.ensures.after c.pass_place.ensures.grown c.pass_place.ensures.err).world

pub returns-clause-answers : goal.returns-clause-answers
returns-clause-answers g c =
    let w : WorldFields = record { genesis = c.self.inside.genesis; liars = c.self.inside.liars; members = c.self.inside.members.items; answered = c.self.inside.answered } in
    let i = c.from.result in
    let takes : member_in w c.args.to ≡ Some c.requires.taker = subst (λ (x : WorldFields). member_in x c.args.to ≡ Some c.requires.taker) (sym c.self.view_is) c.requires.sends.takes in
    let inside : i < length w.members = subst (λ n. n < length w.members) (sym c.from.ensures) (is_below w c.args.to c.requires.taker c.self.invariant takes) in
    let here : slice_get w.members i ≡ Some c.index_mut.result.now = slice_get-get_or w.members i c.index_mut.result.now inside ∙ ap Some (sym c.index_mut.ensures.value) in
    let bytes = bytes_of c.in_ok-checked.checked in
    let few : HasFewFaulty (setting_in w) = few_lie c.sizes_of_sets.ensures.listed w.genesis w.liars c.self.invariant.genesis c.self.invariant.liars c.self.invariant.group in
    let unforged : is_forged_at w (Bring i bytes) ≡ false =
    subst (λ n. is_forged_at w (Bring n bytes) ≡ false) (sym c.from.ensures)
    (subst (λ (x : WorldFields). is_forged_at x (Bring c.args.to bytes) ≡ false) (sym c.self.view_is)
    (subst (λ (l : List ℕ). is_forged_at c.args.self.now (Bring c.args.to l) ≡ false) (sym c.in_ok-checked.ensures.bytes) c.out_of_turn.ensures.unforged)) in
    let any = bring_any c.what_opens.ensures c.forged_is_told.ensures.forged c.correct_members_stand.ensures.action w i bytes c.index_mut.result.now c.pass_place.new.place c.pass_place.result
    c.self.invariant few here unforged c.pass_place.ensures.reply c.pass_place.ensures.after c.pass_place.ensures.grown c.pass_place.ensures.err in
    let p = c.pass_place.new.place in
    subst (λ (l : List ℕ). IfOk c.pass_place.result (AnswersEvent c.args.self.now (with_place w i p) (Bring c.args.to l))) c.in_ok-checked.ensures.bytes
    (subst (λ (x : WorldFields). IfOk c.pass_place.result (AnswersEvent x (with_place w i p) (Bring c.args.to bytes))) c.self.view_is
    (subst (λ n. IfOk c.pass_place.result (AnswersEvent w (with_place w i p) (Bring n bytes))) c.from.ensures any.answers))

pub returns-clause-err : goal.returns-clause-err
returns-clause-err g c =
    let w : WorldFields = record { genesis = c.self.inside.genesis; liars = c.self.inside.liars; members = c.self.inside.members.items; answered = c.self.inside.answered } in
    let i = c.from.result in
    let takes : member_in w c.args.to ≡ Some c.requires.taker = subst (λ (x : WorldFields). member_in x c.args.to ≡ Some c.requires.taker) (sym c.self.view_is) c.requires.sends.takes in
    let inside : i < length w.members = subst (λ n. n < length w.members) (sym c.from.ensures) (is_below w c.args.to c.requires.taker c.self.invariant takes) in
    let here : slice_get w.members i ≡ Some c.index_mut.result.now = slice_get-get_or w.members i c.index_mut.result.now inside ∙ ap Some (sym c.index_mut.ensures.value) in
    let bytes = bytes_of c.in_ok-checked.checked in
    let few : HasFewFaulty (setting_in w) = few_lie c.sizes_of_sets.ensures.listed w.genesis w.liars c.self.invariant.genesis c.self.invariant.liars c.self.invariant.group in
    let unforged : is_forged_at w (Bring i bytes) ≡ false =
    subst (λ n. is_forged_at w (Bring n bytes) ≡ false) (sym c.from.ensures)
    (subst (λ (x : WorldFields). is_forged_at x (Bring c.args.to bytes) ≡ false) (sym c.self.view_is)
    (subst (λ (l : List ℕ). is_forged_at c.args.self.now (Bring c.args.to l) ≡ false) (sym c.in_ok-checked.ensures.bytes) c.out_of_turn.ensures.unforged)) in
    let any = bring_any c.what_opens.ensures c.forged_is_told.ensures.forged c.correct_members_stand.ensures.action w i bytes c.index_mut.result.now c.pass_place.new.place c.pass_place.result
    c.self.invariant few here unforged c.pass_place.ensures.reply c.pass_place.ensures.after c.pass_place.ensures.grown c.pass_place.ensures.err in
    subst (λ (x : WorldFields). OnErr c.pass_place.result (with_place w i c.pass_place.new.place ≡ x)) c.self.view_is any.err

pub returns-in-Some-clause-memory : goal.returns-in-Some-clause-memory
returns-in-Some-clause-memory g c = grind (arith, common_steps)
