use Rattle.std.proofs.Common.{◌≡◌, ◌<◌, ◌≤◌, ◌+◌, ℕ, List, [], ◌∷◌, ◌++◌, length, set, slice_index, arith, rules, refl, sym, ap, ap₂, ◌∙◌, subst, Option, None}
use Rattle.std.specs.Bool.{then_some}
use Rattle.std.proofs.lemmas.Grind.{common_steps}
use Rattle.std.proofs.lemmas.List.{length-set}
use Rattle.pay_frame.specs.Frame.{BodyFields}
use Rattle.pay_channel.specs.History as channel
use Rattle.pay_channel.specs.History.{IsEvent}
use Rattle.pay_channel.specs.Lies.{is_lie_to}
use Rattle.pay_channel.specs.Taken.{next}
use Rattle.pay_link.specs.Checked.{IsFor}
use Rattle.pay_member.specs.declared.event.Event.TheVariants.{Taken}
use Rattle.pay_member.specs.declared.event.Reply.TheVariants as reply
use Rattle.pay_member.specs.declared.event.HistoryEntry.{HistoryEntry}
use Rattle.pay_member.specs.Events.{events}
use Rattle.pay_member.specs.Refusal.{refusal}
use Rattle.pay_member.specs.Reply.{took_by}
use Rattle.pay_member.specs.Ledger.{Grows}
use Rattle.pay_member.specs.Member.{MemberFields, IsMember}
use Rattle.pay_member.specs.declared.ledger.Lie.{Lie}
use Rattle.pay_member.specs.Lies.{AreFound, lie_of, with_lie}
use Rattle.pay_member.proofs.Ledgers.{took_is}
use Rattle.pay_member.proofs.LiesFound.{found_taken}
use Rattle.pay_member.proofs.Members.{member_more, turns_taken, turns_counted, frame_taken}
use Rattle.pay_member.proofs.member.Member.take.Goals as goal

pub advance-requires-clause-below_the_last : goal.advance-requires-clause-below_the_last
advance-requires-clause-below_the_last g c =
    let h = c.self.inside.history.items in
    let m : MemberFields = record { genesis = c.self.inside.genesis; keys = c.self.inside.keys; history = h } in
    let for_me : IsFor c.self.inside.keys c.args.checked = c.is_for.ensures.0 (search rules) in
    let sender : c.from-from.result < m.genesis.members = (let p = for_me.sender.0 in let k = c.self.invariant.keys in omega arith) in
    let few = turns_counted c.taken_in_order.ensures.count m.genesis.members h c.self.inside.fronts c.self.invariant.turns c.from-from.result sender in
    let long : length h < c.len-entries.result = grind (arith, common_steps) in
    omega arith

pub invariant_of-self-2 : goal.invariant_of-self-2
invariant_of-self-2 g c =
    let h = c.self.inside.history.items in
    let from = c.args.checked.frame.from in
    let body = c.args.checked.frame.body in
    let x : HistoryEntry = record { stamp = c.args.stamp; event = Taken c.args.checked; reply = reply.Took c.in_ok-took.took } in
    let m : MemberFields = record { genesis = c.self.inside.genesis; keys = c.self.inside.keys; history = h } in
    let items : c.push_reserved.new.self.items ≡ h ++ x ∷ [] = c.push_reserved.ensures.items ∙ ap (λ l. l ++ x ∷ []) c.in_ok-reserve.ensures.items in
    let At : List HistoryEntry → Type 0 = λ l. IsMember (record { genesis = c.self.inside.genesis; keys = c.self.inside.keys; history = l }) c.apply.new.self c.advance.new.self c.note_lie.new.lies.items in
    let for_me : IsFor c.self.inside.keys c.args.checked = c.is_for.ensures.0 (search rules) in
    let sender : c.args.checked.frame.from < m.genesis.members = (let p = for_me.sender.0 in let k = c.self.invariant.keys in omega arith) in
    let Here : ℕ → BodyFields → Type 0 = λ p b. Grows c.self.inside.ledger c.apply.new.self (channel.From p b) c.in_ok-took.took in
    let grows : Here from body = subst (λ b. Here from b) c.body-body.ensures.value (subst (λ p. Here p c.body-body.result.now) c.from-from.ensures c.in_ok-took.ensures.grows) in
    let later : c.advance.new.self ≡ set c.self.inside.fronts from (slice_index c.self.inside.fronts from + 1) =
    c.advance.ensures ∙ ap (λ p. set c.self.inside.fronts p (slice_index c.self.inside.fronts p + 1)) c.from-from.ensures in
    let now : c.next-next.result ≡ next from (events h) = c.next-next.ensures ∙ ap (slice_index c.self.inside.fronts) c.from-from.ensures ∙ c.self.invariant.turns from sender in
    let may : IsEvent c.self.inside.ledger.channel.group (channel.From from body) = search rules in
    let noted : AreFound m.genesis.members (events h ++ channel.From from body ∷ []) c.note_lie.new.lies.items =
    found_taken m.genesis.members (events h) from body c.self.inside.lies.items c.note_lie.new.lies.items (is_lie_to c.self.inside.ledger.channel from body) c.self.invariant.lies_found sender
    (c.a_channel_follows.ensures.lies c.self.inside.ledger.channel (events h) from body c.self.invariant.tracks.follows may)
    (c.note_lie.ensures
    ∙ ap₂ (λ (p : ℕ) (o : Option Lie). with_lie p o c.self.inside.lies.items) c.from-from.ensures
    (c.lie-lie.ensures ∙ ap₂ (λ (p : ℕ) (b : BodyFields). then_some (is_lie_to c.self.inside.ledger.channel p b) (lie_of b)) c.from-from.ensures c.body-body.ensures.value)) in
    let above : c.next-next.result ≤ c.args.checked.frame.number = omega arith in
    let below : c.args.checked.frame.number ≤ c.next-next.result = omega arith in
    subst At (sym items)
    (member_more c.a_channel_follows.ensures.event c.a_channel_follows.ensures.lists c.lists_grow.ensures.many c.lists_grow.ensures.asked c.sends_are_asks.ensures.echo m c.self.inside.ledger c.apply.new.self c.self.inside.fronts c.advance.new.self c.self.inside.lies.items c.note_lie.new.lies.items x (channel.From from body) c.in_ok-took.took
    c.self.invariant grows refl
    (record {
      kept = c.taken_is_kept.ensures;
      taken = frame_taken m.genesis m.keys (events h) c.args.checked c.next-next.result for_me now above below;
      reply = ap reply.Took
          (took_is c.a_channel_follows.ensures.event c.a_channel_follows.ensures.lists c.a_channel_follows.ensures.answers c.settled_book_is_one.ensures
          m.genesis m.keys.own (events h) c.self.inside.ledger c.apply.new.self (channel.From from body) c.in_ok-took.took c.self.invariant.tracks grows);
    })
    (ap length later ∙ length-set c.self.inside.fronts from (slice_index c.self.inside.fronts from + 1) ∙ c.self.invariant.one_for_each)
    (λ p member. ap (λ (f : List ℕ). slice_index f p) later ∙ turns_taken c.taken_in_order.ensures.next m.genesis.members (events h) c.self.inside.fronts from body c.self.invariant.one_for_each c.self.invariant.turns sender p member)
    noted)

pub returns-clause-took : goal.returns-clause-took
returns-clause-took g c =
    let from = c.args.checked.frame.from in
    let body = c.args.checked.frame.body in
    let Here : ℕ → BodyFields → Type 0 = λ p b. Grows c.self.inside.ledger c.apply.new.self (channel.From p b) c.in_ok-took.took in
    let grows : Here from body = subst (λ b. Here from b) c.body-body.ensures.value (subst (λ p. Here p c.body-body.result.now) c.from-from.ensures c.in_ok-took.ensures.grows) in
    let At : MemberFields → Type 0 = λ m. c.in_ok-took.took ≡ took_by m.genesis m.keys.own (events m.history) (channel.From from body) in
    subst At c.self.view_is
    (took_is c.a_channel_follows.ensures.event c.a_channel_follows.ensures.lists c.a_channel_follows.ensures.answers c.settled_book_is_one.ensures
    c.self.inside.genesis c.self.inside.keys.own (events c.self.inside.history.items) c.self.inside.ledger c.apply.new.self (channel.From from body) c.in_ok-took.took c.self.invariant.tracks grows)

pub returns-clause-entry : goal.returns-clause-entry
returns-clause-entry g c = grind (arith, common_steps)

pub returns-clause-refused : goal.returns-clause-refused
returns-clause-refused g c =
    let h = c.self.inside.history.items in
    let from = c.args.checked.frame.from in
    let for_me : IsFor c.self.inside.keys c.args.checked = c.is_for.ensures.0 (search rules) in
    let sender : from < c.self.inside.genesis.members = (let p = for_me.sender.0 in let k = c.self.invariant.keys in omega arith) in
    let now : c.next-next.result ≡ next from (events h) = c.next-next.ensures ∙ ap (slice_index c.self.inside.fronts) c.from-from.ensures ∙ c.self.invariant.turns from sender in
    let above : c.next-next.result ≤ c.args.checked.frame.number = omega arith in
    let below : c.args.checked.frame.number ≤ c.next-next.result = omega arith in
    let IsTaken : MemberFields → Type 0 = λ m. refusal m.genesis m.keys (events m.history) (Taken c.args.checked) ≡ None in
    let taken : IsTaken c.args.self.now = subst IsTaken c.self.view_is (frame_taken c.self.inside.genesis c.self.inside.keys (events h) c.args.checked c.next-next.result for_me now above below) in
    rw taken tt

pub returns-in_err-reserve-clause-refused : goal.returns-in_err-reserve-clause-refused
returns-in_err-reserve-clause-refused g c = search rules

pub returns-in_err-took-clause-refused : goal.returns-in_err-took-clause-refused
returns-in_err-took-clause-refused g c = search rules
