-- How a member is fed from a peer's stream: it receives each frame, and the WANTs of its answers
-- are sent.
use Rattle.std.specs.Prelude.{ℕ, List, [], Option, Some, None, option_map}
use Rattle.pay_frame.specs.Frame.{FrameFields, frame_bytes}
use Rattle.pay_frame.specs.Handling.{Start}
use Rattle.pay_frame.specs.Exact.{Function}
use Rattle.pay_channel.specs.Taken.{next}
use Rattle.pay_link.specs.Opening.{judgement}
use Rattle.pay_link.specs.Sealing.{want_frame}
use Rattle.pay_member.specs.Events.{events}
use Rattle.pay_member.specs.Member.{MemberFields}
use Rattle.pay_member.specs.Bringing.{incoming_at, unless_want, outcome_to, want_for, with_brought}

-- the WANT to a peer for what is next from it
unfoldable pub first_want : MemberFields → ℕ → List ℕ
first_want m peer = frame_bytes (want_frame m.keys peer (next peer (events m.history)))

-- the member after it received a frame under a stamp
unfoldable pub after_frame : ℕ → MemberFields → FrameFields → MemberFields
after_frame stamp m f =
    with_brought m stamp
    (outcome_to m.genesis m.keys.own (events m.history) (incoming_at m.keys f))
    (unless_want (judgement m.keys f))

-- the WANT of its answer, if the frame was authenticated and is no WANT
unfoldable pub want_of : ℕ → MemberFields → FrameFields → Option (List ℕ)
want_of stamp m f =
    option_map (want_for m.keys (events (after_frame stamp m f).history))
    (unless_want (judgement m.keys f))

abbrev pub bytes_if_any : Option (List ℕ) → List ℕ
bytes_if_any None = []
bytes_if_any (Some bytes) = bytes

-- The WANT of each answer, frame by frame. A fault isn't reported to the peer.
abbrev pub serving : ℕ → Function MemberFields
serving stamp = record {
  after = after_frame stamp;
  text = λ m f. bytes_if_any (want_of stamp m f);
  fault_text = λ m fault. [];
}

-- the first WANT is written before all others
abbrev pub serve_start :
    MemberFields → ℕ → Option (List ℕ) → Option (List ℕ) → Start MemberFields
serve_start m peer input before =
    record { first = first_want m peer; state = m; input = input; before = before }
