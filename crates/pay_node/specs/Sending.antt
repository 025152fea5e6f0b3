-- What a member sent to all, and whether an answer tells that it sent more.
use Rattle.std.specs.Prelude.{ℕ, ◌<◌, ◌↔◌, Bool, IsTrue, List, length, Result}
use Rattle.pay_frame.specs.Frame.{BodyFields}
use Rattle.pay_channel.specs.History.{out}
use Rattle.pay_link.specs.Checked.{CheckedFields}
use Rattle.pay_member.specs.declared.event.Event.TheVariants.{Taken}
use Rattle.pay_member.specs.declared.fault.TakeFault.{TakeFault}
use Rattle.pay_member.specs.declared.event.Took.{Took}
use Rattle.pay_member.specs.Answer.{IsAnswer, answer_of_take}
use Rattle.pay_member.specs.Events.{events}
use Rattle.pay_member.specs.Group.{group_in}
use Rattle.pay_member.specs.Member.{MemberFields}
use Rattle.pay_node.specs.Seats.{behind}

abbrev pub sent_by : MemberFields → List BodyFields
sent_by m = out (group_in m.genesis m.keys.own) (events m.history)

-- Whichever member gave this answer to a frame, its sent list grew by the frame or it didn't.
abbrev pub HasSent : Result Took TakeFault → Bool → Type 0
HasSent answer grown =
    (m : MemberFields) (stamp : ℕ) (frame : CheckedFields)
    → IsAnswer m (Taken frame) (answer_of_take answer)
    → IsTrue grown
    ↔ (length (sent_by m) < length (sent_by (behind m stamp (Taken frame) (answer_of_take answer))))
