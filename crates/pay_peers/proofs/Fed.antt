-- A frame that was due and brought, and the WANTs behind its answer; and a stream of which nothing was read yet.
use Rattle.std.proofs.Common.{◌≡◌, ℕ, ◌+◌, ◌-◌, List, [], Some, None, Err, refl, ap, ◌∙◌, arith}
use Rattle.std.proofs.KnownBytes.{Appends-nil, Consumes-nil}
use Rattle.pay_frame.specs.declared.engine.EngineFault.TheVariants.{Memory}
use Rattle.pay_frame.specs.Handling.{Open, Start}
use Rattle.pay_frame.specs.Frame.{FrameFields}
use Rattle.pay_frame.specs.Stream.{IsFramesThen}
use Rattle.pay_link.specs.Keys.{KeyFields}
use Rattle.pay_member.specs.declared.ledger.Received.{Received}
use Rattle.pay_node.specs.Nodes.{IsReceived, NodeFields}
use Rattle.pay_node.specs.Seats.{SeatFields}
use Rattle.pay_peers.specs.declared.feeding.PeerReader.{PeerReader}
use Rattle.pay_peers.specs.declared.window.Window.{Window}
use Rattle.pay_peers.specs.Ahead.{HasFedAhead, IsDue, IsFedAhead, LooksForLie, next_told, wants}
use Rattle.pay_peers.specs.Window.{asked_behind, first_count, first_window, moved_window, row_of, window_behind}

-- where a next frame is told
pub fed_on :
    (n : NodeFields) (peer ahead : ℕ) (before after : PeerReader) (seat : SeatFields) (f : FrameFields) (r : Received) (number next : ℕ)
    → IsDue peer before f → IsReceived n before.seat seat f r → LooksForLie n peer seat before.lie after
    → number ≡ f.number → Some next ≡ next_told r.outcome number → after.window ≡ moved_window ahead before.window next
    → IsFedAhead n peer ahead before after f
    (wants n.keys peer (asked_behind ahead before.window (next_told r.outcome f.number)))
fed_on n peer ahead before after seat f r number next due is lie of told moves = record {
  due = due;
  received = r;
  seat = seat;
  is = is;
  lie = lie;
  window = moves ∙ ap (window_behind ahead before.window) (told ∙ ap (next_told r.outcome) of);
  asks = refl;
}

-- where none is
pub fed_not :
    (n : NodeFields) (peer ahead : ℕ) (before after : PeerReader) (seat : SeatFields) (f : FrameFields) (r : Received) (number : ℕ)
    → IsDue peer before f → IsReceived n before.seat seat f r → LooksForLie n peer seat before.lie after
    → number ≡ f.number → None ≡ next_told r.outcome number → after.window ≡ before.window
    → IsFedAhead n peer ahead before after f []
fed_not n peer ahead before after seat f r number due is lie of told stays =
    let none = told ∙ ap (next_told r.outcome) of in
    record {
      due = due;
      received = r;
      seat = seat;
      is = is;
      lie = lie;
      window = stays ∙ ap (window_behind ahead before.window) none;
      asks = ap (λ next. wants n.keys peer (asked_behind ahead before.window next)) none;
    }

-- what is written first
pub first_is :
    (k own : KeyFields) (peer ahead : ℕ) (w : Window) (text : List ℕ) → own ≡ k → w ≡ first_window ahead w.due
    → text ≡ wants own peer (row_of w.due (w.asked - w.due)) → text ≡ wants k peer (row_of w.due (first_count ahead))
first_is k own peer ahead w text same begun is =
    let asked : w.asked ≡ w.due + first_count ahead = ap (λ (x : Window). x.asked) begun in
    let count : w.asked - w.due ≡ first_count ahead = omega (arith, asked) in
    is ∙ ap (λ n. wants own peer (row_of w.due n)) count ∙ ap (λ (x : KeyFields). wants x peer (row_of w.due (first_count ahead))) same

-- where memory is refused before anything is read or written
pub nothing_fed :
    (n : NodeFields) (peer ahead : ℕ) (start : Start PeerReader) → IsFramesThen [] [] []
    → HasFedAhead n peer ahead start (record { state = start.state; left = start.input; after = start.before }) (Err Memory)
nothing_fed n peer ahead start nothing = record {
  read = [];
  consumed = Consumes-nil start.input;
  frames = [];
  text = [];
  tail = [];
  follows = Open [] nothing;
  handled = (refl, refl);
  written = record { count = 0; within = omega arith; written = Appends-nil start.before };
}
