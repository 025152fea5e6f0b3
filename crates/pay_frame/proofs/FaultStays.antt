-- A fault stays, whatever follows the bytes; and how long a beginning of a frame may be.
use Rattle.std.proofs.Common.{◌≡◌, ℕ, zero, suc, ◌+◌, ◌<◌, ◌≤◌, List, ◌++◌, length, get_or, take, drop, refl, sym, ◌∙◌, ap, subst, arith, inl, inr}
use Rattle.std.proofs.lemmas.Bool.{cases_lt}
use Rattle.std.proofs.lemmas.List.{length-append, take-append-drop, take-append-le, get_or_append_left, take_at}
use Rattle.pay_frame.specs.declared.reading.FrameFault.{FrameFault}
use Rattle.pay_frame.specs.Frame.{FrameFields, frame_bytes, IsFrame}
use Rattle.pay_frame.specs.Reading.{HasFrame, StartsFrame, IsProperBeginning, IsFault, fault_at}
use Rattle.pay_frame.proofs.Starting.{length-frame}

-- the name of a fault depends on the kind that is there, and on the place
same_name : (x y : List ℕ) (place : ℕ) → (3 ≤ place → get_or x 3 0 ≡ get_or y 3 0) → fault_at x place ≡ fault_at y place
same_name x y zero h = refl
same_name x y (suc zero) h = refl
same_name x y (suc (suc zero)) h = refl
same_name x y (suc (suc (suc n))) h = let e = h (omega arith) in cc

-- a beginning of bytes that are longer than a place
front : (x more : List ℕ) (k : ℕ) → k ≤ length x → take k (x ++ more) ≡ take k x
front x more k le = take-append-le k x more le

-- a frame in front of bytes that begin with x, where it reaches past a place of x
starts_within : (x more rest : List ℕ) (f : FrameFields) (k : ℕ) → IsFrame f → x ++ more ≡ frame_bytes f ++ rest → k ≤ length x → k ≤ length (frame_bytes f) → StartsFrame (take k x)
starts_within x more rest f k is spelled le within = record {
  frame = f;
  is = is;
  rest = drop k (frame_bytes f);
  spelled = sym (take-append-drop k (frame_bytes f))
      ∙ ap (λ (xs : List ℕ). xs ++ drop k (frame_bytes f)) (sym (take-append-le k (frame_bytes f) rest within) ∙ ap (take k) (sym spelled) ∙ front x more k le);
}

frame_within : (x more rest : List ℕ) (f : FrameFields) → IsFrame f → x ++ more ≡ frame_bytes f ++ rest → length (frame_bytes f) ≤ length x → HasFrame x f
frame_within x more rest f is spelled le =
    let n : ℕ = length (frame_bytes f) in
    let bytes : take n x ≡ frame_bytes f = sym (front x more n le) ∙ ap (take n) spelled ∙ take_at (frame_bytes f) rest n refl in
    record { is = is; rest = drop n x; spelled = sym (take-append-drop n x) ∙ ap (λ (xs : List ℕ). xs ++ drop n x) bytes }

none_in_front : (x more : List ℕ) (fault : FrameFault) → IsFault x fault → (f : FrameFields) → HasFrame (x ++ more) f → ⊥
none_in_front x more fault wrong f has =
    let within = wrong.within in
    elim (cases_lt wrong.place (length (frame_bytes f))) [
      | inl lt ↦ wrong.wrong (starts_within x more has.rest f (wrong.place + 1) has.is has.spelled (omega arith) (omega arith))
      | inr le ↦ wrong.no_frame f (frame_within x more has.rest f has.is has.spelled (omega arith))
    ]

pub fault_stays : (x more : List ℕ) (fault : FrameFault) → IsFault x fault → IsFault (x ++ more) fault
fault_stays x more fault wrong =
    let within = wrong.within in
    record {
      no_frame = none_in_front x more fault wrong;
      place = wrong.place;
      within = omega (arith, length-append x more);
      before = λ k le. subst StartsFrame (sym (front x more k (omega arith))) (wrong.before k le);
      wrong = λ s. wrong.wrong (subst StartsFrame (front x more (wrong.place + 1) (omega arith)) s);
      named = same_name (x ++ more) x wrong.place (λ le. get_or_append_left x more 0 3 (omega arith)) ∙ wrong.named;
    }

-- ---- no frame is longer than the longest, and less than a frame is shorter

pub greatest_frame : (f : FrameFields) → IsFrame f → length (frame_bytes f) ≤ 1080
greatest_frame f is = let value = is.body.value in omega (arith, length-frame f is)

pub beginning_is_short : (x : List ℕ) → IsProperBeginning x → length x < 1080
beginning_is_short x begins =
    let s = begins.starts in
    let more = begins.more in
    omega (arith, greatest_frame s.frame s.is, ap length s.spelled, length-append x s.rest)
