-- What is answered of a frame, by the member's answer.
use Rattle.std.proofs.Common.{◌≡◌, ◌≢◌, ℕ, List, Result, Ok, Err, None, refl, ap, ◌∙◌, subst}
use Rattle.pay_frame.specs.declared.reading.FrameFault.{FrameFault}
use Rattle.pay_frame.specs.Frame.{FrameFields}
use Rattle.pay_frame.specs.OneFrame.{IsOneFrame, IsOneReading}
use Rattle.pay_link.specs.Checked.{checked_fields}
use Rattle.pay_link.specs.Opening.{OpenedFields}
use Rattle.pay_link.specs.declared.opened.LinkFault.{LinkFault}
use Rattle.pay_member.specs.declared.bringing.Brought.{Brought}
use Rattle.pay_member.specs.declared.event.Event.TheVariants.{Taken}
use Rattle.pay_member.specs.declared.bringing.Incoming.{Incoming}
use Rattle.pay_member.specs.declared.bringing.Incoming.TheVariants.{Message, Want}
use Rattle.pay_member.specs.declared.ledger.Received.{Received}
use Rattle.pay_member.specs.declared.fault.TakeFault.{TakeFault}
use Rattle.pay_member.specs.declared.fault.TakeFault.TheVariants.{Memory}
use Rattle.pay_member.specs.declared.event.Took.{Took}
use Rattle.pay_member.specs.declared.bringing.Outcome.TheVariants as outcome
use Rattle.pay_member.specs.Answer.{answer_of_take}
use Rattle.pay_member.specs.Bringing.{answered_at_once, with_want}
use Rattle.pay_node.specs.Nodes.{NodeFields, IsAnswered, IsAnsweredAs, IsBrought, IsReceived, next_of, outcome_of_take}
use Rattle.pay_node.specs.Seats.{SeatFields}

pub taken_message :
    (n : NodeFields) (before after : SeatFields) (i : Result Incoming LinkFault) (opened : OpenedFields) (number : ℕ) (answer : Result Took TakeFault) (r : Received)
    → Ok (Message opened) ≡ i → r.outcome ≡ outcome_of_take answer → answer ≢ Err Memory → number ≡ opened.frame.number → r.next ≡ next_of number answer
    → (answer ≢ Err Memory → IsAnswered n before after (Taken (checked_fields opened)) (answer_of_take answer))
    → IsAnsweredAs n before after i r
taken_message n before after i opened number answer r opens outcome memory is next answered =
    subst (λ x. IsAnsweredAs n before after x r) opens
    (record { answer = answer; memory = memory; answered = answered memory; outcome = outcome; next = next ∙ ap (λ m. next_of m answer) is })

pub is_want :
    (n : NodeFields) (seat : SeatFields) (i : Result Incoming LinkFault) (from number : ℕ) (r : Received)
    → Ok (Want from number) ≡ i → r ≡ answered_at_once (outcome.Wanted from number) → IsAnsweredAs n seat seat i r
is_want n seat i from number r is same = subst (λ x. IsAnsweredAs n seat seat x r) is (same, refl)

pub is_fault :
    (n : NodeFields) (seat : SeatFields) (i : Result Incoming LinkFault) (fault : LinkFault) (r : Received)
    → Err fault ≡ i → r ≡ answered_at_once (outcome.Link fault) → IsAnsweredAs n seat seat i r
is_fault n seat i fault r is same = subst (λ x. IsAnsweredAs n seat seat x r) is (same, refl)

pub brought_frame :
    (n : NodeFields) (bytes : List ℕ) (before after : SeatFields) (f : FrameFields) (r : Received) (from : ℕ) (b : Brought)
    → IsOneFrame bytes f → IsReceived n before after f r → from ≡ f.from → b ≡ with_want n.keys from r → IsBrought n bytes before after b
brought_frame n bytes before after f r from b one is sender same =
    record { reading = Ok f; reads = one; is = (r, is, same ∙ ap (λ p. with_want n.keys p r) sender) }

pub brought_fault :
    (n : NodeFields) (bytes : List ℕ) (seat : SeatFields) (fault : FrameFault) (b : Brought)
    → IsOneReading bytes (Err fault) → b ≡ record { outcome = outcome.Frame fault; want = None } → IsBrought n bytes seat seat b
brought_fault n bytes seat fault b reads same = record { reading = Err fault; reads = reads; is = (same, refl) }
