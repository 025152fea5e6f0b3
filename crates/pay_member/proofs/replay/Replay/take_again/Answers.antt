use Rattle.std.proofs.Common.{◌≡◌, ℕ, ◌+◌, ◌<◌, List, [], ◌∷◌, ◌++◌, Option, Some, length, set, slice_index, refl, sym, ap, ap₂, ◌∙◌, subst, arith}
use Rattle.std.specs.Bool.{then_some}
use Rattle.std.proofs.lemmas.List.{length-set, length-take-le}
use Rattle.pay_frame.specs.Frame.{BodyFields}
use Rattle.pay_echo.specs.Broadcast.{Group}
use Rattle.pay_channel.specs.History as channel
use Rattle.pay_channel.specs.History.{IsEvent}
use Rattle.pay_channel.specs.Lies.{is_lie_to}
use Rattle.pay_link.specs.Checked.{CheckedFields}
use Rattle.pay_member.specs.declared.event.Event.TheVariants.{Taken}
use Rattle.pay_member.specs.Events.{events}
use Rattle.pay_member.specs.declared.ledger.Lie.{Lie}
use Rattle.pay_member.specs.Ledger.{LedgerFields, Grows}
use Rattle.pay_member.specs.Lies.{AreFound, lie_of, with_lie}
use Rattle.pay_member.specs.Legal.{Legal}
use Rattle.pay_member.specs.Replay.{ReplayFields, IsReplay, next_event, member_replayed}
use Rattle.pay_member.proofs.LiesFound.{found_taken}
use Rattle.pay_member.proofs.Members.{turns_counted, turns_taken}
use Rattle.pay_member.proofs.Replays.{next_may_come, next_within, replay_more}
use Rattle.pay_member.proofs.replay.Replay.take_again.Goals as goal

abbrev IsFrameNext : CheckedFields → ReplayFields → Type 0
IsFrameNext checked r = next_event r ≡ Some (Taken checked)

frame_may_come :
    (r : ReplayFields) (ledger : LedgerFields) (fronts : List ℕ) (lies : List (Option Lie)) (checked : CheckedFields)
    → IsReplay r ledger fronts lies → Legal r.member.genesis r.member.keys r.member.history → IsFrameNext checked r
    → IsEvent ledger.channel.group (channel.From checked.frame.from checked.frame.body)
frame_may_come r ledger fronts lies checked replay legal next =
    next_may_come r ledger fronts lies (Taken checked) (channel.From checked.frame.from checked.frame.body) replay legal next refl

sender_is_member :
    (r : ReplayFields) (ledger : LedgerFields) (fronts : List ℕ) (lies : List (Option Lie)) (checked : CheckedFields)
    → IsReplay r ledger fronts lies → Legal r.member.genesis r.member.keys r.member.history → IsFrameNext checked r
    → checked.frame.from < r.member.genesis.members
sender_is_member r ledger fronts lies checked replay legal next =
    let come = frame_may_come r ledger fronts lies checked replay legal next in
    subst (λ (x : Group). checked.frame.from < x.members) replay.is.tracks.group come.0

pub prove-unreachable-requires : goal.prove-unreachable-requires
prove-unreachable-requires g c =
    let r : ReplayFields = record { member = c.self.inside.member.now; taken = c.self.inside.taken } in
    let within = next_within r (Taken c.args.checked.now) (subst (IsFrameNext c.args.checked.now) (sym c.self.view_is) c.requires) in
    let long = ap length c.history-entries.ensures.value in
    omega arith

pub apply-requires-clause-event : goal.apply-requires-clause-event
apply-requires-clause-event g c =
    let r : ReplayFields = record { member = c.self.inside.member.now; taken = c.self.inside.taken } in
    let group = c.self.inside.ledger.channel.group in
    subst (λ (b : BodyFields). IsEvent group (channel.From c.from-from.result b)) (sym c.body-body.ensures.value)
    (subst (λ (p : ℕ). IsEvent group (channel.From p c.args.checked.now.frame.body)) (sym c.from-from.ensures)
    (frame_may_come r c.self.inside.ledger c.self.inside.fronts c.self.inside.lies.items c.args.checked.now c.self.invariant c.history-entries.ensures.legal (subst (IsFrameNext c.args.checked.now) (sym c.self.view_is) c.requires)))

pub apply-requires-clause-member : goal.apply-requires-clause-member
apply-requires-clause-member g c =
    let r : ReplayFields = record { member = c.self.inside.member.now; taken = c.self.inside.taken } in
    let come = frame_may_come r c.self.inside.ledger c.self.inside.fronts c.self.inside.lies.items c.args.checked.now c.self.invariant c.history-entries.ensures.legal (subst (IsFrameNext c.args.checked.now) (sym c.self.view_is) c.requires) in
    let owner = c.owner.ensures.value ∙ ap (λ (b : BodyFields). b.owner) c.body-body.ensures.value in
    subst (λ n. n < c.self.inside.ledger.channel.group.members) (sym owner) come.2

pub advance-requires-clause-member : goal.advance-requires-clause-member
advance-requires-clause-member g c =
    let r : ReplayFields = record { member = c.self.inside.member.now; taken = c.self.inside.taken } in
    let sender = sender_is_member r c.self.inside.ledger c.self.inside.fronts c.self.inside.lies.items c.args.checked.now c.self.invariant c.history-entries.ensures.legal (subst (IsFrameNext c.args.checked.now) (sym c.self.view_is) c.requires) in
    let places = c.self.invariant.is.one_for_each in
    let from = c.from-from.ensures in
    omega arith

pub advance-requires-clause-below_the_last : goal.advance-requires-clause-below_the_last
advance-requires-clause-below_the_last g c =
    let r : ReplayFields = record { member = c.self.inside.member.now; taken = c.self.inside.taken } in
    let next = subst (IsFrameNext c.args.checked.now) (sym c.self.view_is) c.requires in
    let sender = sender_is_member r c.self.inside.ledger c.self.inside.fronts c.self.inside.lies.items c.args.checked.now c.self.invariant c.history-entries.ensures.legal next in
    let counted = turns_counted c.taken_in_order.ensures.count r.member.genesis.members (member_replayed r).history c.self.inside.fronts c.self.invariant.is.turns c.args.checked.now.frame.from sender in
    let taken = length-take-le r.taken r.member.history c.self.invariant.within in
    let within = next_within r (Taken c.args.checked.now) next in
    let long = ap length c.history-entries.ensures.value in
    let from = ap (slice_index c.self.inside.fronts) c.from-from.ensures in
    omega arith

pub invariant_of-self-2 : goal.invariant_of-self-2
invariant_of-self-2 g c =
    let r : ReplayFields = record { member = c.self.inside.member.now; taken = c.self.inside.taken } in
    let next = subst (IsFrameNext c.args.checked.now) (sym c.self.view_is) c.requires in
    let from = c.args.checked.now.frame.from in
    let body = c.args.checked.now.frame.body in
    let fronts = c.self.inside.fronts in
    let lies = c.self.inside.lies.items in
    let sender = sender_is_member r c.self.inside.ledger fronts c.self.inside.lies.items c.args.checked.now c.self.invariant c.history-entries.ensures.legal next in
    let Here : ℕ → BodyFields → Type 0 = λ p b. Grows c.self.inside.ledger c.apply.new.self (channel.From p b) c.in_ok-apply.field-0 in
    let grows : Here from body = subst (λ b. Here from b) c.body-body.ensures.value (subst (λ p. Here p c.body-body.result.now) c.from-from.ensures c.in_ok-apply.ensures.grows) in
    let later : c.advance.new.self ≡ set fronts from (slice_index fronts from + 1) =
    c.advance.ensures ∙ ap (λ p. set fronts p (slice_index fronts p + 1)) c.from-from.ensures in
    let before = events (member_replayed r).history in
    let may : IsEvent c.self.inside.ledger.channel.group (channel.From from body) = frame_may_come r c.self.inside.ledger fronts lies c.args.checked.now c.self.invariant c.history-entries.ensures.legal next in
    let found : AreFound r.member.genesis.members (before ++ channel.From from body ∷ []) c.note_lie.new.lies.items =
    found_taken r.member.genesis.members before from body lies c.note_lie.new.lies.items (is_lie_to c.self.inside.ledger.channel from body) c.self.invariant.is.lies_found sender
    (c.a_channel_follows.ensures.lies c.self.inside.ledger.channel before from body c.self.invariant.is.tracks.follows may)
    (c.note_lie.ensures
    ∙ ap₂ (λ (p : ℕ) (o : Option Lie). with_lie p o lies) c.from-from.ensures
    (c.lie-lie.ensures ∙ ap₂ (λ (p : ℕ) (b : BodyFields). then_some (is_lie_to c.self.inside.ledger.channel p b) (lie_of b)) c.from-from.ensures c.body-body.ensures.value)) in
    replay_more c.a_channel_follows.ensures.event c.a_channel_follows.ensures.lists c.lists_grow.ensures.many c.lists_grow.ensures.asked c.sends_are_asks.ensures.echo
    r c.self.inside.ledger c.apply.new.self fronts c.advance.new.self lies c.note_lie.new.lies.items (Taken c.args.checked.now) (channel.From from body) c.in_ok-apply.field-0
    c.self.invariant c.history-entries.ensures.legal next refl grows
    (ap length later ∙ length-set fronts from (slice_index fronts from + 1))
    (λ p member. ap (λ (f : List ℕ). slice_index f p) later
    ∙ turns_taken c.taken_in_order.ensures.next r.member.genesis.members (events (member_replayed r).history) fronts from body c.self.invariant.is.one_for_each c.self.invariant.is.turns sender p member)
    found

pub lie-lie-requires : goal.lie-lie-requires
lie-lie-requires g c =
    let r : ReplayFields = record { member = c.self.inside.member.now; taken = c.self.inside.taken } in
    let group = c.self.inside.ledger.channel.group in
    subst (λ (b : BodyFields). IsEvent group (channel.From c.from-from.result b)) (sym c.body-body.ensures.value)
    (subst (λ (p : ℕ). IsEvent group (channel.From p c.args.checked.now.frame.body)) (sym c.from-from.ensures)
    (frame_may_come r c.self.inside.ledger c.self.inside.fronts c.self.inside.lies.items c.args.checked.now c.self.invariant c.history-entries.ensures.legal (subst (IsFrameNext c.args.checked.now) (sym c.self.view_is) c.requires)))

pub note_lie-requires : goal.note_lie-requires
note_lie-requires g c =
    let r : ReplayFields = record { member = c.self.inside.member.now; taken = c.self.inside.taken } in
    let sender = sender_is_member r c.self.inside.ledger c.self.inside.fronts c.self.inside.lies.items c.args.checked.now c.self.invariant c.history-entries.ensures.legal (subst (IsFrameNext c.args.checked.now) (sym c.self.view_is) c.requires) in
    let places = c.self.invariant.is.lies_found.places in
    let from = c.from-from.ensures in
    omega arith
