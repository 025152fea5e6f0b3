-- How a node is fed from a peer's stream: it receives each frame, and the WANTs of its answers are
-- sent.
use Rattle.std.specs.Prelude.{◌≡◌, ℕ, List, [], Result, ⊤}
use Rattle.pay_frame.specs.declared.engine.EngineFault.{EngineFault}
use Rattle.pay_frame.specs.Frame.{FrameFields, frame_bytes}
use Rattle.pay_link.specs.Keys.{KeyFields}
use Rattle.pay_link.specs.Sealing.{want_frame}
use Rattle.pay_member.specs.declared.ledger.Received.{Received}
use Rattle.pay_member.specs.Bringing.{with_want}
use Rattle.pay_member.specs.Serving.{bytes_if_any}
use Rattle.pay_frame.specs.Handling.{Handling, HasHandled, Stage, Start, never}
use Rattle.pay_node.specs.Nodes.{IsReceived, NodeFields}
use Rattle.pay_node.specs.Seats.{SeatFields}

-- the WANT to a peer for all that it sent
unfoldable pub want_for_all : KeyFields → ℕ → List ℕ
want_for_all k peer = frame_bytes (want_frame k peer 0)

-- the node received a frame from a seat, and this is the WANT for the number that is next, if there
-- is one
pub record IsFed (n : NodeFields) (before after : SeatFields) (f : FrameFields) (text : List ℕ)
    : Type 0 where
  pub received : Received
  pub is : IsReceived n before after f received
  pub want : text ≡ bytes_if_any (with_want n.keys f.from received).want

-- the node receives each frame, and its WANT is written; no frame ends the stream, and a fault has
-- no text
abbrev pub feeding : NodeFields → Handling SeatFields
feeding n = record { step = IsFed n; may_stop = never; fault_text = λ s fault. [] }

-- The node received the frames one after the other, and the WANTs were written. The loop ends only
-- at the input's end.
abbrev pub HasFed :
    NodeFields → Start SeatFields → Stage SeatFields → Result ⊤ EngineFault → Type 0
HasFed n = HasHandled (feeding n)
