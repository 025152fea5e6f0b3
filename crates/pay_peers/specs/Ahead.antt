-- How a node is fed from a peer's stream with several frames in flight.
use Rattle.std.specs.Prelude.{◌≡◌, ℕ, ◌+◌, ◌-◌, ◌^◌, nat_lt, if◌then◌else◌, List, [], Option, Some}
use Rattle.std.specs.Prelude.{None, Result, ⊤, ◌⊎◌}
use Rattle.std.specs.List.{flat_map}
use Rattle.pay_frame.specs.declared.engine.EngineFault.{EngineFault}
use Rattle.pay_frame.specs.Frame.{FrameFields, frame_bytes}
use Rattle.pay_link.specs.Keys.{KeyFields}
use Rattle.pay_link.specs.Sealing.{want_frame}
use Rattle.pay_link.specs.declared.opened.LinkFault.TheVariants.{NotForMe, UnknownSender}
use Rattle.pay_link.specs.declared.opened.LinkFault.TheVariants.{UnknownOwner, BadTag, Repeat, Gap}
use Rattle.pay_member.specs.declared.ledger.Received.{Received}
use Rattle.pay_member.specs.declared.bringing.Outcome.{Outcome}
use Rattle.pay_member.specs.declared.bringing.Outcome.TheVariants.{Took, Wanted, Frame, Link}
use Rattle.pay_member.specs.declared.bringing.Outcome.TheVariants.{WrongKey}
use Rattle.pay_frame.specs.Handling.{Handling, HasHandled, Stage, Start}
use Rattle.pay_member.specs.declared.ledger.Lie.{Lie}
use Rattle.pay_node.specs.Nodes.{IsAccused, IsReceived, NodeFields}
use Rattle.pay_node.specs.Seats.{SeatFields}
use Rattle.pay_peers.specs.declared.feeding.PeerReader.{PeerReader}
use Rattle.pay_peers.specs.Window.{asked_behind, window_behind}

-- page: The connecting side first writes a challenge with a nonce drawn at its start, and reads the
--   claim on it. A member that continues from its log then ends the connection, until claims of a
--   quorum have freed it. If nothing comes for two seconds the connection ends; a free member
--   connects again without a challenge.
-- page: Then it writes WANTs of the next four numbers that it needs, or of fewer if its pipelining
--   depth is less.
-- page: Each frame that comes allows one more to be in flight, up to `--ahead`.
-- page: Frames come in the order of their requests. At a frame of another number or sender, or
--   bytes that are no frame, it ends the connection and connects again; a frame that fails
--   authentication otherwise is passed over.
-- page: The connected side answers a challenge at once with the claim on it. It answers each WANT
--   of a place with the frame of its number, encoded for the WANT's sender, if it is authenticated.
--   A WANT beyond the outbound list waits until the list has that place, as do those after it. A
--   frame with an authentication tag that isn't the one under the shared key ends the connection,
--   as do bytes that are no frame. Any other frame that is no WANT, or isn't authenticated, gets no
--   answer.
-- page: Either side may end a connection at any time. Nothing is lost: what wasn't accepted is
--   requested on the next one. A node [shuts some](commands.md#node) if there are too many.
-- the WANTs of these numbers to a peer
abbrev pub wants : KeyFields → ℕ → List ℕ → List ℕ
wants k peer numbers = flat_map (λ number. frame_bytes (want_frame k peer number)) numbers

-- the number that is next after a frame of this number, according to its outcome, if there is one
abbrev pub next_told : Outcome → ℕ → Option ℕ
next_told (Took took) number = if nat_lt number (2 ^ 64 - 1) then Some (number + 1) else None
next_told (Link (Repeat next)) number = Some next
next_told (Link (Gap next)) number = None
next_told (Link NotForMe) number = None
next_told (Link UnknownSender) number = None
next_told (Link UnknownOwner) number = None
next_told (Link BadTag) number = None
next_told (Wanted from m) number = None
next_told (Frame fault) number = None
next_told WrongKey number = None

-- the frame is the peer's, and has the expected number
pub record IsDue (peer : ℕ) (s : PeerReader) (f : FrameFields) : Type 0 where
  pub sender : f.from ≡ peer
  pub number : f.number ≡ s.window.due

-- The node looked for a protocol violation of the peer, or not. Afterwards the reader knows what it
-- knew before, or what the node's member answered, and the seat keeps the receipt of the answer.
abbrev pub LooksForLie : NodeFields → ℕ → SeatFields → Option Lie → PeerReader → Type 0
LooksForLie n peer seat known after =
    ((after.seat ≡ seat) × (after.lie ≡ known)) ⊎ IsAccused n peer seat after.seat after.lie

-- The node received the expected frame from the seat, and then looked for a protocol violation of
-- the peer, or not. The WANTs of the numbers that are requested after the answer are these.
pub record IsFedAhead (n : NodeFields) (peer ahead : ℕ) (before after : PeerReader)
    (f : FrameFields) (text : List ℕ)
    : Type 0 where
  pub due : IsDue peer before f
  pub received : Received
  pub seat : SeatFields
  pub is : IsReceived n before.seat seat f received
  pub lie : LooksForLie n peer seat before.lie after
  pub window :
      after.window ≡ window_behind ahead before.window (next_told received.outcome f.number)
  pub asks :
      text ≡ wants n.keys peer
      (asked_behind ahead before.window (next_told received.outcome f.number))

-- The node receives each expected frame, and more frames are requested. The stream is left at any
-- other frame, and if a protocol violation of the peer is known.
abbrev pub feeding_ahead : NodeFields → ℕ → ℕ → Handling PeerReader
feeding_ahead n peer ahead = record {
  step = IsFedAhead n peer ahead;
  may_stop = λ s f. (¬ (IsDue peer s f)) ⊎ ((lie : Lie) × (s.lie ≡ Some lie));
  fault_text = λ s fault. [];
}

abbrev pub HasFedAhead :
    NodeFields → ℕ → ℕ → Start PeerReader → Stage PeerReader → Result ⊤ EngineFault → Type 0
HasFedAhead n peer ahead = HasHandled (feeding_ahead n peer ahead)
