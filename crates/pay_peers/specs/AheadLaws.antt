-- Laws of pipelining.
use Rattle.std.specs.Prelude.{◌≡◌, ℕ, ◌+◌, ◌-◌, ◌^◌, ◌<◌, ◌≤◌, zero, suc, min, List, ◌++◌, length}
use Rattle.std.specs.Prelude.{slice_get, Some, ⊤}
use Rattle.std.specs.List.{All, AllPairs, Contains}
use Rattle.pay_frame.specs.Frame.{FrameFields}
use Rattle.pay_link.specs.declared.opened.LinkFault.TheVariants.{NotForMe, UnknownSender}
use Rattle.pay_link.specs.declared.opened.LinkFault.TheVariants.{UnknownOwner, BadTag, Repeat, Gap}
use Rattle.pay_member.specs.declared.bringing.Outcome.{Outcome}
use Rattle.pay_member.specs.declared.bringing.Outcome.TheVariants.{Took, Wanted, Frame, Link}
use Rattle.pay_member.specs.declared.bringing.Outcome.TheVariants.{WrongKey}
use Rattle.pay_frame.specs.Handling.{Handling, Steps}
use Rattle.pay_link.specs.Keys.{KeyFields}
use Rattle.pay_node.specs.Nodes.{NodeFields}
use Rattle.pay_peers.specs.declared.feeding.PeerReader.{PeerReader}
use Rattle.pay_peers.specs.declared.window.Window.{Window}
use Rattle.pay_peers.specs.Ahead.{IsFedAhead, feeding_ahead, next_told, wants}
use Rattle.pay_peers.specs.Feeding.{IsFed}
use Rattle.pay_peers.specs.Window.{asked_behind, first_count, first_window, moved_window, row_of}

-- some frames are in flight, and no more than the pipelining depth
pub record IsUnderWay (ahead : ℕ) (w : Window) : Type 0 where
  pub some : w.due < w.asked
  pub few : w.asked ≤ w.due + ahead

-- After an answer the window has advanced. The requested numbers rise, and none of them was
-- requested before. Each number that is now in flight was requested before or is now.
pub record AsksEachOnce (ahead : ℕ) (before after : Window) (numbers : List ℕ) : Type 0 where
  pub forward : before.due < after.due
  pub under_way : IsUnderWay ahead after
  pub rising : AllPairs (λ number later. number < later) numbers
  pub new : All (λ number. (before.asked ≤ number) × (number < after.asked)) numbers
  pub none_left :
      (number : ℕ) → after.due ≤ number → number < after.asked → before.asked ≤ number
      → Contains numbers number

-- each number is requested once, after each answer, as long as there are numbers
abbrev pub AskedOnce : Type 0
AskedOnce =
    (ahead : ℕ) (w : Window) (next : ℕ) → 0 < ahead → IsUnderWay ahead w
    → (moved_window ahead w next).asked < 2 ^ 64 - 1
    → AsksEachOnce ahead w (moved_window ahead w next) (asked_behind ahead w (Some next))

-- the window of a connection that began with a number, after `came` frames in the order of their
-- numbers, and what was requested until then
abbrev pub window_after : ℕ → ℕ → ℕ → Window
window_after ahead from zero = first_window ahead from
window_after ahead from (suc came) =
    moved_window ahead (window_after ahead from came) (from + suc came)

abbrev pub asked_after : ℕ → ℕ → ℕ → List ℕ
asked_after ahead from zero = row_of from (first_count ahead)
asked_after ahead from (suc came) =
    asked_after ahead from came
    ++ asked_behind ahead (window_after ahead from came) (Some (from + suc came))

-- The window opens by one with each frame, up to `ahead` and no further. All numbers from the first
-- on were requested, each once.
abbrev pub OpensByOne : Type 0
OpensByOne =
    (ahead from came : ℕ) → 0 < ahead → from + came + ahead < 2 ^ 64 - 1
    → (window_after ahead from came
    ≡ record { due = from + came; asked = from + (came + min ahead (came + 4)) })
    × (asked_after ahead from came ≡ row_of from (came + min ahead (came + 4)))

-- ---- a run in which all requested frames came

-- The node received the expected frame, and the answer says that the one after it is next.
pub record TakesAhead (n : NodeFields) (peer ahead : ℕ) (before after : PeerReader)
    (f : FrameFields) (text : List ℕ)
    : Type 0 where
  pub fed : IsFedAhead n peer ahead before after f text
  pub next : next_told fed.received.outcome f.number ≡ Some (f.number + 1)

abbrev pub taking_ahead : NodeFields → ℕ → ℕ → Handling PeerReader
taking_ahead n peer ahead = record {
  step = TakesAhead n peer ahead;
  may_stop = (feeding_ahead n peer ahead).may_stop;
  fault_text = (feeding_ahead n peer ahead).fault_text;
}

-- All WANTs that were written, with these frames. The WANTs' numbers are those from the first on,
-- each once, and so are the frames' numbers. Some frames are in flight, and no more than the
-- pipelining depth.
pub record HasAskedForAll (k : KeyFields) (peer ahead from : ℕ) (fs : List FrameFields)
    (written : List ℕ) : Type 0 where
  pub numbers : List ℕ
  pub text : written ≡ wants k peer numbers
  pub from_it_on :
      (place : ℕ) → place < length numbers → slice_get numbers place ≡ Some (from + place)
  pub came : (place : ℕ) (f : FrameFields) → slice_get fs place ≡ Some f → f.number ≡ from + place
  pub some : length fs < length numbers
  pub few : length numbers ≤ length fs + ahead

-- this holds after any run that begins as a connection does
abbrev pub AsksForAll : Type 0
AsksForAll =
    (n : NodeFields) (peer ahead from : ℕ) (before after : PeerReader) (fs : List FrameFields)
    (text : List ℕ)
    → 0 < ahead → from + length fs + ahead < 2 ^ 64 - 1 → before.window ≡ first_window ahead from
    → Steps (taking_ahead n peer ahead) before after fs text
    → HasAskedForAll n.keys peer ahead from fs
    (wants n.keys peer (row_of from (first_count ahead)) ++ text)

-- The frame was accepted, or is one that was accepted before, as each frame is that comes in the
-- order of the numbers. Otherwise it wasn't authenticated.
abbrev pub CameInOrder : Window → Outcome → Type 0
CameInOrder w (Took took) = w.asked < 2 ^ 64 - 1
CameInOrder w (Link (Repeat next)) = (w.asked ≤ next) × (next < 2 ^ 64 - 1)
CameInOrder w (Link (Gap next)) = ⊥
CameInOrder w (Link NotForMe) = ⊤
CameInOrder w (Link UnknownSender) = ⊤
CameInOrder w (Link UnknownOwner) = ⊤
CameInOrder w (Link BadTag) = ⊤
CameInOrder w (Wanted from m) = ⊤
CameInOrder w (Frame fault) = ⊤
CameInOrder w WrongKey = ⊤

-- With one frame in flight at a time, each peer that keeps to the order feeds a node as without
-- pipelining. This holds until the node looks for a protocol violation of the peer.
abbrev pub AheadByOne : Type 0
AheadByOne =
    (n : NodeFields) (peer : ℕ) (before after : PeerReader) (f : FrameFields) (text : List ℕ)
    → before.window.asked ≡ before.window.due + 1
    → (fed : IsFedAhead n peer 1 before after f text)
    → CameInOrder before.window fed.received.outcome
    → IsFed n before.seat fed.seat f text × (after.window.asked ≡ after.window.due + 1)
