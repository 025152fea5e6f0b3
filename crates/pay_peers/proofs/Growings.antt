-- A fed seat has its receipts still, and some more after them, each of a frame or a lie of its peer.
use Rattle.std.specs.Prelude.{⊤}
use Rattle.std.specs.List.{All}
use Rattle.std.proofs.Common.{◌≡◌, ◌⊎◌, None, Some, List, [], ◌∷◌, ◌++◌, Option, Result, Ok, Err, ℕ, inl, inr, refl, sym, ap, ◌∙◌, append-nil, append_assoc}
use Rattle.std.proofs.lemmas.List.Elements.{All-append, All-cons, All-nil}
use Rattle.pay_frame.specs.declared.engine.EngineFault.{EngineFault}
use Rattle.pay_frame.specs.declared.engine.EngineFault.TheVariants.{Memory, Frame, Read, Write, Bound}
use Rattle.pay_frame.specs.Frame.{FrameFields}
use Rattle.pay_link.specs.declared.opened.LinkFault.{LinkFault}
use Rattle.pay_member.specs.declared.event.Event.{Event}
use Rattle.pay_member.specs.declared.event.Event.TheVariants.{Taken}
use Rattle.pay_member.specs.declared.fault.MemberFault.{MemberFault}
use Rattle.pay_member.specs.declared.fault.MemberFault.TheVariants as fault
use Rattle.pay_member.specs.declared.bringing.Incoming.{Incoming}
use Rattle.pay_member.specs.declared.bringing.Incoming.TheVariants.{Message, Want}
use Rattle.pay_member.specs.declared.ledger.Lie.{Lie}
use Rattle.pay_member.specs.declared.ledger.Received.{Received}
use Rattle.pay_member.specs.declared.reading.Reading.TheVariants.{LastLie}
use Rattle.pay_member.specs.declared.event.Reply.{Reply}
use Rattle.pay_member.specs.Answer.{answer_of_take}
use Rattle.pay_member.specs.Bringing.{incoming_at}
use Rattle.pay_link.specs.Checked.{checked_fields}
use Rattle.pay_node.specs.declared.receipt.Call.{Call}
use Rattle.pay_node.specs.declared.receipt.Call.TheVariants.{Handed}
use Rattle.pay_node.specs.Receipts.{ReceiptFields}
use Rattle.pay_node.specs.Nodes.{IsAccused, IsAnsweredAs, NodeFields}
use Rattle.pay_node.specs.Receipts.{reading_at, receipts_of}
use Rattle.pay_node.specs.Seats.{KeepsReceipt, SeatFields, with_receipts}
use Rattle.pay_frame.specs.Handling.{Steps, Start}
use Rattle.pay_peers.specs.declared.feeding.PeerReader.{PeerReader}
use Rattle.pay_peers.specs.Ahead.{HasFedAhead, LooksForLie, feeding_ahead}
use Rattle.pay_peers.specs.Growing.{SeatGrows, ConcernsPeer}
use Rattle.pay_peers.proofs.ByOne.{frame_is}
use Rattle.pay_peers.proofs.Wants.{OpenedIs}

pub grows_on : (peer : ℕ) (a b c : SeatFields) → SeatGrows peer a b → SeatGrows peer b c → SeatGrows peer a c
grows_on peer a b c one two = record {
  more = one.more ++ two.more;
  is = two.is ∙ ap (λ (s : SeatFields). with_receipts s two.more) one.is ∙ ap (λ (l : List ReceiptFields). record a { receipts = l }) (append_assoc a.receipts one.more two.more);
  each = All-append (λ (r : ReceiptFields). ConcernsPeer peer r.call) one.more two.more one.each two.each;
}

pub same_grows : (peer : ℕ) (a b : SeatFields) → b ≡ a → SeatGrows peer a b
same_grows peer a b same = record {
  more = [];
  is = same ∙ ap (λ (l : List ReceiptFields). record a { receipts = l }) (sym (append-nil a.receipts));
  each = All-nil _;
}

-- all receipts of an answer are of the event that was handed in
all_of : (P : Call → Type 0) (seen : ℕ) (event : Event) (answer : Result Reply MemberFault)
    → ((a : Result Reply MemberFault) → P (Handed event a)) → All (λ (r : ReceiptFields). P r.call) (receipts_of seen event answer)
all_of P seen event (Ok reply) each = All-cons (λ (r : ReceiptFields). P r.call) _ [] (each (Ok reply)) (All-nil _)
all_of P seen event (Err fault.Memory) each = All-nil _
all_of P seen event (Err fault.Spent) each = All-cons (λ (r : ReceiptFields). P r.call) _ [] (each (Err fault.Spent)) (All-nil _)
all_of P seen event (Err fault.TooLong) each = All-cons (λ (r : ReceiptFields). P r.call) _ [] (each (Err fault.TooLong)) (All-nil _)
all_of P seen event (Err (fault.Repeat next)) each = All-cons (λ (r : ReceiptFields). P r.call) _ [] (each (Err (fault.Repeat next))) (All-nil _)
all_of P seen event (Err (fault.Gap next)) each = All-cons (λ (r : ReceiptFields). P r.call) _ [] (each (Err (fault.Gap next))) (All-nil _)
all_of P seen event (Err fault.WrongKey) each = All-cons (λ (r : ReceiptFields). P r.call) _ [] (each (Err fault.WrongKey)) (All-nil _)
all_of P seen event (Err fault.NoAccount) each = All-cons (λ (r : ReceiptFields). P r.call) _ [] (each (Err fault.NoAccount)) (All-nil _)

answered_grows :
    OpenedIs → (n : NodeFields) (peer : ℕ) (before after : SeatFields) (f : FrameFields) (i : Result Incoming LinkFault) (r : Received)
    → incoming_at n.keys f ≡ i → f.from ≡ peer → IsAnsweredAs n before after i r → SeatGrows peer before after
answered_grows law n peer before after f (Ok (Message opened)) r at sender is =
    let from : opened.frame.from ≡ peer = ap (λ (x : FrameFields). x.from) (frame_is law n.keys f opened at) ∙ sender in
    record {
      more = receipts_of _ (Taken (checked_fields opened)) (answer_of_take is.answer);
      is = is.answered.receipt;
      each = all_of (ConcernsPeer peer) _ (Taken (checked_fields opened)) (answer_of_take is.answer) (λ a. from);
    }
answered_grows law n peer before after f (Ok (Want from number)) r at sender is = same_grows peer before after is.1
answered_grows law n peer before after f (Err fault) r at sender is = same_grows peer before after is.1

-- a look for a lie leaves at most its receipt
kept_grows : (peer : ℕ) (before after : SeatFields) (seen : ℕ) (lie : Option Lie) → KeepsReceipt before after (reading_at seen (LastLie peer lie)) → SeatGrows peer before after
kept_grows peer before after seen lie keeps = go keeps.more where
  go : (after ≡ before) ⊎ (after ≡ with_receipts before (reading_at seen (LastLie peer lie) ∷ [])) → SeatGrows peer before after
  go (inl same) = same_grows peer before after same
  go (inr one) = record { more = reading_at seen (LastLie peer lie) ∷ []; is = one; each = All-cons (λ (r : ReceiptFields). ConcernsPeer peer r.call) _ [] refl (All-nil _) }

accused_grows : (n : NodeFields) (peer : ℕ) (before after : SeatFields) (lie : Option Lie) → IsAccused n peer before after lie → SeatGrows peer before after
accused_grows n peer before after None is = same_grows peer before after is.1
accused_grows n peer before after (Some lie) is = kept_grows peer before after _ (Some lie) is.receipt

pub looked_grows : (n : NodeFields) (peer : ℕ) (seat : SeatFields) (known : Option Lie) (after : PeerReader) → LooksForLie n peer seat known after → SeatGrows peer seat after.seat
looked_grows n peer seat known after (inl same) = same_grows peer seat after.seat same.0
looked_grows n peer seat known after (inr accused) = accused_grows n peer seat after.seat after.lie accused

fed_grows :
    OpenedIs → (n : NodeFields) (peer ahead : ℕ) (before after : PeerReader) (fs : List FrameFields) (text : List ℕ)
    → Steps (feeding_ahead n peer ahead) before after fs text → SeatGrows peer before.seat after.seat
fed_grows law n peer ahead before after [] text are = same_grows peer before.seat after.seat (ap (λ (s : PeerReader). s.seat) are.0)
fed_grows law n peer ahead before after (f ∷ fs) text are =
    grows_on peer before.seat are.0.seat after.seat
    (grows_on peer before.seat are.3.seat are.0.seat
    (answered_grows law n peer before.seat are.3.seat f (incoming_at n.keys f) are.3.received refl are.3.due.sender are.3.is)
    (looked_grows n peer are.3.seat before.lie are.0 are.3.lie))
    (fed_grows law n peer ahead are.0 after fs are.2 are.4)

pub run_grows :
    OpenedIs → (n : NodeFields) (peer ahead : ℕ) (start : Start PeerReader) (asking : PeerReader) (left after : Option (List ℕ)) (r : Result ⊤ EngineFault)
    → HasFedAhead n peer ahead start (record { state = asking; left = left; after = after }) r → SeatGrows peer start.state.seat asking.seat
run_grows law n peer ahead start asking left after (Ok _) (inl is) = fed_grows law n peer ahead start.state asking is.0.frames is.0.text is.0.handled
run_grows law n peer ahead start asking left after (Ok _) (inr is) = fed_grows law n peer ahead start.state asking is.frames is.text is.handled
run_grows law n peer ahead start asking left after (Err (Frame fault)) is = fed_grows law n peer ahead start.state asking is.frames is.text is.handled
run_grows law n peer ahead start asking left after (Err Memory) is = fed_grows law n peer ahead start.state asking is.frames is.text is.handled
run_grows law n peer ahead start asking left after (Err Read) is = fed_grows law n peer ahead start.state asking is.1.1.frames is.1.1.text is.1.1.handled
run_grows law n peer ahead start asking left after (Err Write) is = fed_grows law n peer ahead start.state asking is.frames is.text is.handled
run_grows law n peer ahead start asking left after (Err Bound) is = fed_grows law n peer ahead start.state asking is.1.frames is.1.text is.1.handled
