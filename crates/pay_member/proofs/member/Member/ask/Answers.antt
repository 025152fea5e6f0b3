use Rattle.std.proofs.Common.{◌≡◌, ℕ, ◌<◌, ◌≤◌, arith, length, List, [], ◌∷◌, ◌++◌, refl, sym, ap, ◌∙◌, subst}
use Rattle.std.proofs.lemmas.Grind.{common_steps}
use Rattle.pay_frame.specs.declared.limits.TheConstants.{GREATEST_VALUE, SEQS}
use Rattle.pay_channel.specs.History as channel
use Rattle.pay_channel.specs.History.{asks}
use Rattle.pay_member.specs.declared.event.Event.TheVariants.{Ask}
use Rattle.pay_member.specs.declared.event.Reply.TheVariants.{Asked}
use Rattle.pay_member.specs.declared.event.HistoryEntry.{HistoryEntry}
use Rattle.pay_member.specs.Events.{events}
use Rattle.pay_member.specs.Ledger.{Grows}
use Rattle.pay_member.specs.Member.{MemberFields, IsMember}
use Rattle.pay_member.proofs.Members.{member_more, turns_asked, ask_taken}
use Rattle.pay_member.proofs.LiesFound.{found_asked}
use Rattle.pay_member.proofs.member.Member.ask.Goals as goal

pub invariant_of-self-2 : goal.invariant_of-self-2
invariant_of-self-2 g c =
    let v = c.in_ok-value.value in
    let h = c.self.inside.history.items in
    let x : HistoryEntry = record { stamp = c.args.stamp; event = Ask v; reply = Asked c.asks-seq.result } in
    let m : MemberFields = record { genesis = c.self.inside.genesis; keys = c.self.inside.keys; history = h } in
    let items : c.push_reserved.new.self.items ≡ h ++ x ∷ [] = c.push_reserved.ensures.items ∙ ap (λ l. l ++ x ∷ []) c.in_ok-reserve.ensures.items in
    let At : List HistoryEntry → Type 0 = λ l. IsMember (record { genesis = c.self.inside.genesis; keys = c.self.inside.keys; history = l }) c.apply.new.self c.self.inside.fronts c.self.inside.lies.items in
    let grows : Grows c.self.inside.ledger c.apply.new.self (channel.Ask v) c.in_ok-apply.field-0 =
    subst (λ v. Grows c.self.inside.ledger c.apply.new.self (channel.Ask v) c.in_ok-apply.field-0) c.as_slice.ensures c.in_ok-apply.ensures.grows in
    let asked = c.asks-seq.ensures ∙ c.self.invariant.tracks.follows.asks in
    let fits : length v ≤ GREATEST_VALUE = omega (arith, ap (λ (l : List ℕ). length l) c.in_ok-value.ensures) in
    let left : asks (events h) < SEQS = omega arith in
    subst At (sym items)
    (member_more c.a_channel_follows.ensures.event c.a_channel_follows.ensures.lists c.lists_grow.ensures.many c.lists_grow.ensures.asked c.sends_are_asks.ensures.echo m c.self.inside.ledger c.apply.new.self c.self.inside.fronts c.self.inside.fronts c.self.inside.lies.items c.self.inside.lies.items x (channel.Ask v) c.in_ok-apply.field-0
    c.self.invariant grows refl
    (record { kept = c.asked_is_kept.ensures; taken = ask_taken m.genesis m.keys (events h) v fits left; reply = ap Asked asked })
    c.self.invariant.one_for_each
    (turns_asked c.taken_in_order.ensures.next m.genesis.members (events h) c.self.inside.fronts v c.self.invariant.turns)
    (found_asked m.genesis.members (events h) v c.self.inside.lies.items c.self.invariant.lies_found))

pub returns-clause-entry : goal.returns-clause-entry
returns-clause-entry g c = grind (arith, common_steps)

pub returns-then-seq-ge-SEQS-clause-refused : goal.returns-then-seq-ge-SEQS-clause-refused
returns-then-seq-ge-SEQS-clause-refused g c = grind (arith, common_steps)
