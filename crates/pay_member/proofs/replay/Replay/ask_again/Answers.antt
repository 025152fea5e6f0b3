use Rattle.std.proofs.Common.{◌≡◌, ℕ, ◌<◌, List, Some, length, refl, sym, ap, subst, arith}
use Rattle.pay_frame.specs.declared.limits.TheConstants.{SEQS}
use Rattle.pay_channel.specs.History as channel
use Rattle.pay_channel.specs.History.{IsEvent}
use Rattle.pay_member.specs.declared.event.Event.TheVariants.{Ask}
use Rattle.pay_member.specs.Events.{events}
use Rattle.pay_member.specs.Ledger.{Grows}
use Rattle.pay_member.specs.Replay.{ReplayFields, next_event, member_replayed}
use Rattle.pay_member.proofs.LiesFound.{found_asked}
use Rattle.pay_member.proofs.Members.{turns_asked}
use Rattle.pay_member.proofs.Replays.{ask_left, next_may_come, next_taken, next_within, replay_more}
use Rattle.pay_member.proofs.replay.Replay.ask_again.Goals as goal

abbrev IsAskNext : List ℕ → ReplayFields → Type 0
IsAskNext v r = next_event r ≡ Some (Ask v)

pub prove-unreachable-requires : goal.prove-unreachable-requires
prove-unreachable-requires g c =
    let r : ReplayFields = record { member = c.self.inside.member.now; taken = c.self.inside.taken } in
    let within = next_within r (Ask c.args.value.now) (subst (IsAskNext c.args.value.now) (sym c.self.view_is) c.requires) in
    let long = ap length c.history-entries.ensures.value in
    omega arith

pub apply-requires-clause-event : goal.apply-requires-clause-event
apply-requires-clause-event g c =
    let v = c.args.value.now in
    let r : ReplayFields = record { member = c.self.inside.member.now; taken = c.self.inside.taken } in
    subst (λ (x : List ℕ). IsEvent c.self.inside.ledger.channel.group (channel.Ask x)) (sym c.as_slice.ensures)
    (next_may_come r c.self.inside.ledger c.self.inside.fronts c.self.inside.lies.items (Ask v) (channel.Ask v) c.self.invariant c.history-entries.ensures.legal (subst (IsAskNext v) (sym c.self.view_is) c.requires) refl)

pub apply-requires-clause-number : goal.apply-requires-clause-number
apply-requires-clause-number g c = λ _.
    let v = c.args.value.now in
    let r : ReplayFields = record { member = c.self.inside.member.now; taken = c.self.inside.taken } in
    subst (λ n. n < SEQS) (sym c.self.invariant.is.tracks.follows.asks)
    (ask_left r.member.genesis r.member.keys (events (member_replayed r).history) v (next_taken r (Ask v) c.history-entries.ensures.legal (subst (IsAskNext v) (sym c.self.view_is) c.requires)))

pub invariant_of-self-2 : goal.invariant_of-self-2
invariant_of-self-2 g c =
    let v = c.args.value.now in
    let r : ReplayFields = record { member = c.self.inside.member.now; taken = c.self.inside.taken } in
    let fronts = c.self.inside.fronts in
    let lies = c.self.inside.lies.items in
    let grows : Grows c.self.inside.ledger c.apply.new.self (channel.Ask v) c.in_ok-apply.field-0 =
    subst (λ (x : List ℕ). Grows c.self.inside.ledger c.apply.new.self (channel.Ask x) c.in_ok-apply.field-0) c.as_slice.ensures c.in_ok-apply.ensures.grows in
    replay_more c.a_channel_follows.ensures.event c.a_channel_follows.ensures.lists c.lists_grow.ensures.many c.lists_grow.ensures.asked c.sends_are_asks.ensures.echo
    r c.self.inside.ledger c.apply.new.self fronts fronts lies lies (Ask v) (channel.Ask v) c.in_ok-apply.field-0
    c.self.invariant c.history-entries.ensures.legal (subst (IsAskNext v) (sym c.self.view_is) c.requires) refl grows refl
    (turns_asked c.taken_in_order.ensures.next r.member.genesis.members (events (member_replayed r).history) fronts v c.self.invariant.is.turns)
    (found_asked r.member.genesis.members (events (member_replayed r).history) v lies c.self.invariant.is.lies_found)
