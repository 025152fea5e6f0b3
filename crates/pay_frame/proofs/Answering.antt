-- What the tests of the places tell is what reading asks.
use Rattle.std.proofs.Common.{◌≡◌, ℕ, ◌+◌, ◌-◌, ◌<◌, ◌≤◌, true, false, List, [], ◌++◌, length, get_or, take, drop, refl, sym, ◌∙◌, ap, arith, Some, min}
use Rattle.std.proofs.lemmas.Bool.{false≢true}
use Rattle.std.proofs.lemmas.List.{length-take-le, append-nil, get_or-take, get_or_append_left, take-append-drop}
use Rattle.pay_frame.specs.declared.reading.FrameFault.{FrameFault}
use Rattle.pay_frame.specs.Frame.{FrameFields, frame_bytes, IsFrame}
use Rattle.pay_frame.specs.Places.{length_field, may_stand, PassBelow, IsFirstWrong, IsSizeOf}
use Rattle.pay_frame.specs.Reading.{HasFrame, StartsFrame, IsProperBeginning, IsFault, fault_at}
use Rattle.pay_frame.specs.Stream.{IsBytes}
use Rattle.pay_frame.proofs.Lists.{IsBytes-take, SameUpTo}
use Rattle.pay_frame.proofs.Heads.{may_stand-same}
use Rattle.pay_frame.proofs.Passing.{head_from_passing}
use Rattle.pay_frame.proofs.Starting.{starts_long, starts_short, passes_in_frame, proper_from}

-- the first bytes, where those before a place pass
starts_before : (x : List ℕ) (place : ℕ) → IsBytes x → place < 24 → place < length x → PassBelow x place → (k : ℕ) → k ≤ place → StartsFrame (take k x)
starts_before x place is small within pass k le =
    let len : length (take k x) ≡ k = length-take-le k x (omega arith) in
    starts_short (24 - k) k (omega arith) (take k x) len (IsBytes-take k x is)
    (λ p lt. may_stand-same (take k x) x p (omega arith) (λ j below. get_or-take k x j 0 (omega arith)) ∙ pass p (omega arith))

-- a byte of a frame that doesn't pass
contrary : (x : List ℕ) (place : ℕ) → may_stand x place ≡ false → may_stand x place ≡ true → ⊥
contrary x place p q = false≢true (sym p ∙ q)

same_in_front : (x : List ℕ) (place : ℕ) → place < length x → (s : StartsFrame (take (place + 1) x)) → SameUpTo place x (frame_bytes s.frame ++ [])
same_in_front x place within s k le =
    let len : length (take (place + 1) x) ≡ place + 1 = length-take-le (place + 1) x (omega arith) in
    sym (get_or-take (place + 1) x k 0 (omega arith))
    ∙ sym (get_or_append_left (take (place + 1) x) s.rest 0 k (omega arith))
    ∙ ap (λ (xs : List ℕ). get_or xs k 0) (sym s.spelled ∙ sym (append-nil (frame_bytes s.frame)))

pub fault_from : (x : List ℕ) (place : ℕ) (fault : FrameFault) → IsBytes x → IsFirstWrong x place → fault_at x place ≡ Some fault → IsFault x fault
fault_from x place fault is first named = record {
  no_frame = λ f has. contrary x place first.3 (passes_in_frame f has.is has.rest x place first.0 (λ k le. ap (λ (xs : List ℕ). get_or xs k 0) has.spelled));
  place = place;
  within = first.1;
  before = starts_before x place is first.0 first.1 first.2;
  wrong = λ s. contrary x place first.3 (passes_in_frame s.frame s.is [] x place first.0 (same_in_front x place first.1 s));
  named = named;
}

-- less than a head
pub beginning_from_short : (x : List ℕ) → IsBytes x → length x < 24 → PassBelow x (min 24 (length x)) → IsProperBeginning x
beginning_from_short x is short pass =
    proper_from x (starts_short (24 - length x) (length x) (omega arith) x refl is (λ p lt. pass p (omega arith))) (omega arith)

-- a head, and less than the frame
pub beginning_from_long : (x : List ℕ) → IsBytes x → 24 ≤ length x → PassBelow x 24 → length x < 2 + length_field x → IsProperBeginning x
beginning_from_long x is long pass within =
    let s = starts_long x is long pass (omega arith) in
    record { starts = s.0; more = omega arith }

-- a front that is a frame
pub frame_from : (x : List ℕ) (size : ℕ) (f : FrameFields) → IsFrame f → frame_bytes f ≡ take size x → HasFrame x f
frame_from x size f is spelled = record { is = is; rest = drop size x; spelled = sym (take-append-drop size x) ∙ ap (λ (xs : List ℕ). xs ++ drop size x) (sym spelled) }

-- the front of bytes that pass
pub size_of_whole : (x : List ℕ) (size : ℕ) → PassBelow x 24 → size ≡ 2 + length_field x → size ≤ length x → IsSizeOf x size
size_of_whole x size pass size-is within =
    let least = (head_from_passing x pass).least in
    let zeroth = get_or-take size x 0 0 (omega arith) in
    let next = get_or-take size x 1 0 (omega arith) in
    let same : length_field (take size x) ≡ length_field x = cc in
    record {
      within = within;
      whole = record {
        head = λ p lt. may_stand-same (take size x) x p lt (λ j le. get_or-take size x j 0 (omega arith)) ∙ pass p lt;
        length = length-take-le size x within ∙ size-is ∙ ap (λ n. 2 + n) (sym same);
      };
    }

pub size_from : (x : List ℕ) (size : ℕ) (f : FrameFields) → frame_bytes f ≡ take size x → size ≤ length x → size ≡ length (frame_bytes f)
size_from x size f spelled le = sym (length-take-le size x le) ∙ ap length (sym spelled)
