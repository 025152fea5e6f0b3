-- Whole frames in front of some bytes.
use Rattle.std.proofs.Common.{◌≡◌, ℕ, ◌+◌, ◌-◌, ◌*◌, ◌/◌, ◌%◌, ◌^◌, ◌<◌, ◌≤◌, true, false, List, [], ◌∷◌, ◌++◌, length, take, drop, refl, sym, ◌∙◌, ap, subst, arith, Option, Some, None, Result, Ok, length-drop}
use Rattle.std.specs.List.{All, flat_map}
use Rattle.std.proofs.lemmas.List.{take-append-drop, take-append-le, take_all, length-append, length-take, append-nil}
use Rattle.std.proofs.lemmas.List.Elements.{All-head}
use Rattle.std.proofs.Math.Seq.{take-append-add}
use Rattle.pay_frame.specs.declared.reading.FrameFault.{FrameFault}
use Rattle.pay_frame.specs.Frame.{FrameFields, frame_bytes, IsFrame}
use Rattle.pay_frame.specs.Places.{length_field, may_stand, IsWhole}
use Rattle.pay_frame.specs.Reading.{IsFault, IsReading, IsProperBeginning}
use Rattle.pay_frame.specs.Stream.{IsFramesThen}
use Rattle.pay_frame.specs.Cutting.{Held, IsFront, IsNoFrame, PassesFrames}
use Rattle.pay_frame.specs.Passing.{Passes}
use Rattle.pay_frame.proofs.Heads.{may_stand-frame}
use Rattle.pay_frame.proofs.Starting.{length-frame}
use Rattle.pay_frame.proofs.Streams.{more_bytes, next_frame}

-- ---- one frame more

pub record OneMore (bytes : List ℕ) (frames : List FrameFields) (size : ℕ) : Type 0 where
  pub within : size ≤ length bytes
  pub cut : IsFramesThen (take size bytes) frames []

whole_slice : (bytes : List ℕ) (size : ℕ) → take (length bytes - size) (drop size bytes) ≡ drop size bytes
whole_slice bytes size = take_all (length bytes - size) (drop size bytes) (omega (arith, length-drop size bytes))

pub reading_behind : (bytes : List ℕ) (size : ℕ) (answer : Result (Option (FrameFields × ℕ)) FrameFault) → IsReading (take (length bytes - size) (drop size bytes)) answer → IsReading (drop size bytes) answer
reading_behind bytes size answer = subst (λ xs. IsReading xs answer) (whole_slice bytes size)

pub at_front : (bytes : List ℕ) (size : ℕ) (fault : FrameFault) → size ≡ 0 → IsFault (drop size bytes) fault → IsFault bytes fault
at_front bytes size fault zero = subst (λ xs. IsFault xs fault) (ap (λ n. drop n bytes) zero)

pub one_more : (bytes : List ℕ) (size next : ℕ) (frames : List FrameFields) (f : FrameFields) → size ≤ length bytes → IsFramesThen (take size bytes) frames [] → IsReading (drop size bytes) (Ok (Some (f, next))) → OneMore bytes (frames ++ f ∷ []) (size + next)
one_more bytes size next frames f within cut reading =
    let front : List ℕ = take size bytes in
    let one : List ℕ = frame_bytes f in
    let rest : List ℕ = reading.0.rest in
    let count : length front ≡ size = length-take size bytes ∙ omega arith in
    let parts : bytes ≡ front ++ (one ++ rest) = sym (take-append-drop size bytes) ∙ ap (λ xs. front ++ xs) reading.0.spelled in
    let sized : next ≡ length one = reading.1 in
    let taken : take (size + next) bytes ≡ front ++ one =
    ap (take (size + next)) parts ∙ ap (λ n. take (n + next) (front ++ (one ++ rest))) (sym count) ∙ take-append-add front (one ++ rest) next
    ∙ ap (λ xs. front ++ xs) (take-append-le next one rest (omega arith) ∙ take_all next one (omega arith))
    in
    record {
      within = omega (arith, ap length parts, length-append front (one ++ rest), length-append one rest);
      cut = subst (λ xs. IsFramesThen xs (frames ++ f ∷ []) []) (sym taken) (next_frame (front ++ one) one [] frames f (more_bytes front [] one frames cut) reading.0.is (sym (append-nil one)));
    }

pub front_at : (bytes : List ℕ) (most size count : ℕ) (frames : List FrameFields) → size ≤ length bytes → IsFramesThen (take size bytes) frames [] → count ≡ length frames → count ≤ most → (count < most → IsNoFrame (drop size bytes)) → (count ≡ 0 → (size ≡ 0) × IsProperBeginning bytes) → IsFront bytes most size count
front_at bytes most size count frames fits cut counted within all none = record { frames = frames; fits = fits; cut = cut; counted = counted; within = within; all = all; none = none }

-- ---- all that were passed

pub passes :
    (old new : Held) (most size count : ℕ) → IsFront old.bytes most size count → old.met ≡ None → new.met ≡ None → new.given ≡ take size old.bytes → new.bytes ≡ drop size old.bytes
    → PassesFrames old new most count
passes old new most size count front none met given bytes =
    let behind : List ℕ = drop size old.bytes in
    record {
      frames = front.frames;
      cut = subst (λ xs. IsFramesThen xs front.frames new.bytes) (take-append-drop size old.bytes)
          (subst (λ xs. IsFramesThen (take size old.bytes ++ behind) front.frames xs) (sym bytes) (more_bytes (take size old.bytes) [] behind front.frames front.cut));
      given = subst (λ xs. IsFramesThen xs front.frames []) (sym given) front.cut;
      counted = front.counted;
      within = front.within;
      all = λ lt. subst IsNoFrame (sym bytes) (front.all lt);
      none = λ zero. let nothing = front.none zero in subst IsProperBeginning (sym (bytes ∙ ap (λ n. drop n old.bytes) nothing.0)) nothing.1;
      unmet = none;
      met = met;
    }

-- ---- the first of them alone

two_bytes : (n : ℕ) → n < 2 ^ 16 → 256 * (n / 256 % 256) + n % 256 ≡ n
two_bytes n lt = omega arith

frame_is_whole : (f : FrameFields) → IsFrame f → IsWhole (frame_bytes f)
frame_is_whole f is =
    let field : length_field (frame_bytes f) ≡ 54 + length f.body.value = two_bytes (54 + length f.body.value) (omega (arith, is.body.value)) in
    record {
      head = λ place lt. subst (λ xs. may_stand xs place ≡ true) (append-nil (frame_bytes f)) (may_stand-frame f is [] place lt);
      length = omega (arith, length-frame f is, field);
    }

pub first_passed : (old new : Held) (count : ℕ) → PassesFrames old new 1 count → 0 < count → Passes old new true
first_passed old new count passed some = by_frames passed.frames refl where
  by_frames : (frames : List FrameFields) → passed.frames ≡ frames → Passes old new true
  by_frames [] e = absurd (omega (arith, passed.counted, ap length e))
  by_frames (f ∷ g ∷ fs) e = absurd (omega (arith, passed.counted, passed.within, ap length e))
  by_frames (f ∷ []) e =
      let given : new.given ≡ flat_map frame_bytes passed.frames = passed.given.parts ∙ append-nil (flat_map frame_bytes passed.frames) in
      let one : new.given ≡ frame_bytes f = given ∙ ap (flat_map frame_bytes) e ∙ append-nil (frame_bytes f) in
      let is : IsFrame f = All-head IsFrame f [] (subst (All IsFrame) e passed.given.each) in
      (passed.unmet, passed.cut.parts ∙ ap (λ xs. xs ++ new.bytes) (sym given), subst IsWhole (sym one) (frame_is_whole f is), passed.met)

pub none_passed : (old new : Held) (count : ℕ) → PassesFrames old new 1 count → count ≡ 0 → Passes old new false
none_passed old new count passed zero = by_frames passed.frames refl where
  by_frames : (frames : List FrameFields) → passed.frames ≡ frames → Passes old new false
  by_frames [] e =
      let same : old.bytes ≡ new.bytes = passed.cut.parts ∙ ap (λ fs. flat_map frame_bytes fs ++ new.bytes) e in
      (passed.unmet, subst IsProperBeginning (sym same) (passed.none zero), sym same, passed.met)
  by_frames (f ∷ fs) e = absurd (omega (arith, passed.counted, ap length e))
