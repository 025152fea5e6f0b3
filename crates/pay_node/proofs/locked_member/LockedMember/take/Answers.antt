use Rattle.std.proofs.Common.{rules, ◌≡◌, ◌<◌, ◌^◌, IfOk, List, length, subst}
use Rattle.pay_member.specs.declared.event.HistoryEntry.{HistoryEntry}
use Rattle.pay_member.specs.declared.event.Event.TheVariants.{Taken}
use Rattle.pay_member.specs.declared.event.Reply.TheVariants as reply
use Rattle.pay_member.specs.Answer.{IsAnswer, answer_of_take}
use Rattle.pay_member.specs.Member.{with_entry}
use Rattle.pay_node.proofs.Counted.{has_next}
use Rattle.pay_node.proofs.Rights.{went_on_by}
use Rattle.pay_node.proofs.locked_member.LockedMember.take.Goals as goal

pub invariant_of-self : goal.invariant_of-self
invariant_of-self g c = (
  went_on_by g.S.Beginning.beginning c.self.inside.member c.take-answer.new.self
      (λ took. record { stamp = c.stamp.result; event = Taken c.args.checked; reply = reply.Took took })
      c.take-answer.result c.self.invariant.0 c.take-answer.ensures.entry c.take-answer.ensures.err,
  c.self.invariant.1,
)

pub returns-clause-next : goal.returns-clause-next
returns-clause-next g c =
    let m = c.self.inside.member in
    let now = c.take-answer.new.self in
    let is : IsAnswer m (Taken c.args.checked) (answer_of_take c.take-answer.result) = search rules in
    let entry : IfOk (answer_of_take c.take-answer.result) (λ reply. now ≡ with_entry m (record { stamp = c.stamp.result; event = Taken c.args.checked; reply = reply })) = search rules in
    has_next c.taken_in_order.ensures.count m now c.stamp.result c.args.checked c.take-answer.result is entry
    (subst (λ (h : List HistoryEntry). length h < 2 ^ 64) c.history-entries.ensures.value c.history-entries.type_inv.0)
