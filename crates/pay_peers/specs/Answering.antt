-- The answer to the WANT of a peer.
use Rattle.std.specs.Prelude.{◌≡◌, ◌⊎◌, ℕ, ◌^◌, ◌<◌, ◌≤◌, List, [], Option, Result, Ok, Err, ⊤}
use Rattle.std.specs.List.{Any}
use Rattle.pay_frame.specs.declared.engine.EngineFault.{EngineFault}
use Rattle.pay_frame.specs.Frame.{BodyFields, FrameFields, frame_bytes}
use Rattle.pay_frame.specs.declared.body.Kind.TheVariants as kind
use Rattle.pay_link.specs.Claims.{IsAskedBy, IsNonce, challenge_number, claim_number}
use Rattle.pay_link.specs.declared.claims.Asked.TheVariants.{Nothing}
use Rattle.pay_link.specs.Keys.{KeyFields}
use Rattle.pay_link.specs.Sealing.{sealed_frame, want_frame}
use Rattle.pay_link.specs.declared.opened.LinkFault.TheVariants.{BadTag}
use Rattle.pay_member.specs.declared.bringing.Incoming.TheVariants.{Want}
use Rattle.pay_member.specs.Bringing.{incoming_at}
use Rattle.pay_frame.specs.Handling.{Handling, HasHandled}
use Rattle.pay_node.specs.Keeping.{IsShownOnce}
use Rattle.pay_node.specs.Nodes.{HasNext, NodeFields}
use Rattle.pay_node.specs.Seats.{SeatFields}

-- The frame to a peer with the body at this place of all that the node's member sent. The seat
-- keeps a receipt of this number, which shows the body.
pub record IsSentFrom (n : NodeFields) (to number : ℕ) (before after : SeatFields) (bytes : List ℕ)
    : Type 0 where
  pub body : BodyFields
  pub told : IsShownOnce n before after number body
  pub is : bytes ≡ frame_bytes (sealed_frame n.keys to number body)

-- a frame to a peer with the body at this place, from some seat
pub record IsSentTo (n : NodeFields) (to number : ℕ) (bytes : List ℕ) : Type 0 where
  pub before : SeatFields
  pub after : SeatFields
  pub is : IsSentFrom n to number before after bytes

-- The claim on a challenge of this peer: how many of its frames the node's member accepted.
pub record IsClaimTo (n : NodeFields) (to nonce : ℕ) (bytes : List ℕ) : Type 0 where
  pub next : ℕ
  pub has : HasNext n to next
  pub is : bytes ≡ frame_bytes (want_frame n.keys to (claim_number nonce next))

-- The frame is an authenticated WANT of a peer that has a seat among these.
pub record IsWant {X : Type 0} (k : KeyFields) (seats : List (ℕ × X)) (f : FrameFields)
    (from number : ℕ) : Type 0 where
  pub opens : incoming_at k f ≡ Ok (Want from number)
  pub seated : Any (λ s. s.0 ≡ from) seats

-- The frame's tag isn't the one under the key that its receiver shares with the named sender.
abbrev pub HasWrongTag : KeyFields → FrameFields → Type 0
HasWrongTag k f = incoming_at k f ≡ Err BadTag

-- a frame in this peer's name with a wrong tag
pub record IsUnopened (k : KeyFields) (f : FrameFields) (peer : ℕ) : Type 0 where
  pub from : f.from ≡ peer
  pub fault : HasWrongTag k f

-- any other frame that isn't a WANT of a peer with a seat among these, or requests nothing
pub record IsPassedOver {X : Type 0} (k : KeyFields) (seats : List (ℕ × X)) (f : FrameFields)
    : Type 0 where
  pub none : (from number : ℕ) → IsWant k seats f from number → IsAskedBy number Nothing
  pub right : ¬ (HasWrongTag k f)

-- the frame that a WANT for a place requests
pub record IsReplyToWant {X : Type 0} (n : NodeFields) (seats : List (ℕ × X)) (f : FrameFields)
    (bytes : List ℕ) : Type 0 where
  pub from : ℕ
  pub number : ℕ
  pub want : IsWant n.keys seats f from number
  pub place : number < 2 ^ 63
  pub sent : IsSentTo n from number bytes

-- the claim on the challenge that a WANT is
pub record IsReplyToChallenge {X : Type 0} (n : NodeFields) (seats : List (ℕ × X))
    (f : FrameFields) (bytes : List ℕ) : Type 0 where
  pub from : ℕ
  pub nonce : ℕ
  pub drawn : IsNonce nonce
  pub want : IsWant n.keys seats f from (challenge_number nonce)
  pub claim : IsClaimTo n from nonce bytes

-- A member that sent `sent` frames answers the frame without a wait: it is no WANT, or a WANT for a
-- frame that was sent, or of no place.
abbrev pub NeedsNoWait : ℕ → FrameFields → Type 0
NeedsNoWait sent f = f.body.kind ≡ kind.Want → (f.number < sent) ⊎ (2 ^ 63 ≤ f.number)

-- ---- a connection

-- What is written for a frame: the frame or the claim that it requests, or nothing if it is passed
-- over. The stream may be left at a WANT, without a reply to it. It is left at a wrong tag.
abbrev pub answering : {X : Type 0} → NodeFields → List (ℕ × X) → Handling ⊤
answering n seats = record {
  step = λ before after f text.
      IsReplyToWant n seats f text ⊎ (IsReplyToChallenge n seats f text
      ⊎ (IsPassedOver n.keys seats f × (text ≡ [])));
  may_stop = λ s f.
      ((from : ℕ) × (number : ℕ) × IsWant n.keys seats f from number) ⊎ HasWrongTag n.keys f;
  fault_text = λ s fault. [];
}

-- The frames are replied to, one after the other, and the replies are written after what was
-- written before.
abbrev pub HasAnswered :
    {X : Type 0} → NodeFields → List (ℕ × X) → Option (List ℕ) → Option (List ℕ)
    → Option (List ℕ) → Option (List ℕ) → Result ⊤ EngineFault → Type 0
HasAnswered n seats input left before after =
    HasHandled (answering n seats)
    (record { first = []; state = tt; input = input; before = before })
    (record { state = tt; left = left; after = after })
