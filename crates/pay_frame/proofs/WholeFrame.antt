-- Bytes that are one frame and nothing else: what reading them as one answers, and what is computed of them.
use Rattle.std.proofs.Common.{◌≡◌, ℕ, List, [], ◌∷◌, ◌++◌, length, refl, sym, ◌∙◌, ap, subst, arith, inl, inr, ◌⊎◌, Option, Some, None, Result, Ok, Err}
use Rattle.std.proofs.lemmas.List.{length-append, append-nil}
use Rattle.pay_frame.specs.declared.reading.FrameFault.{FrameFault}
use Rattle.pay_frame.specs.declared.reading.FrameFault.TheVariants.{BadLength, BadVersion, BadKind, BadValueLength, BadSeq, BadWant, Truncated, Trailing}
use Rattle.pay_frame.specs.declared.frame_ref.FrameRef.{FrameRef}
use Rattle.pay_frame.specs.Frame.{FrameFields, frame_bytes}
use Rattle.pay_frame.specs.Lent.{one_of}
use Rattle.pay_frame.specs.Reading.{HasFrame, IsReading, IsProperBeginning, IsFault}
use Rattle.pay_frame.specs.OneFrame.{IsOneFrame, IsFollowed, IsOneReading}
use Rattle.pay_frame.proofs.Early.{first_six}
use Rattle.pay_frame.proofs.OneReading.{same_front, one_reading, drained_from_beginning}

-- ---- the answers of reading bytes as one frame

-- a fault of the bytes
pub one_fault : (x : List ℕ) (fault : FrameFault) → IsFault x fault → IsOneReading x (Err fault)
one_fault x BadLength wrong = wrong
one_fault x BadVersion wrong = wrong
one_fault x BadKind wrong = wrong
one_fault x BadValueLength wrong = wrong
one_fault x BadSeq wrong = wrong
one_fault x BadWant wrong = wrong
one_fault x Truncated wrong = absurd (omega (arith, first_six x Truncated wrong))
one_fault x Trailing wrong = absurd (omega (arith, first_six x Trailing wrong))

pub one_failed : (x : List ℕ) (fault : FrameFault) (answer : Result FrameRef FrameFault) → answer ≡ Err fault → IsFault x fault → IsOneReading x (one_of answer)
one_failed x fault answer e wrong = subst (λ (r : Result FrameRef FrameFault). IsOneReading x (one_of r)) (sym e) (one_fault x fault wrong)

-- a frame in front, by its size
pub all_of_it : (x : List ℕ) (f : FrameFields) → HasFrame x f → length (frame_bytes f) ≡ length x → IsOneFrame x f
all_of_it x f has len =
    let none : has.rest ≡ [] = no_items has.rest (omega (arith, ap length has.spelled, length-append (frame_bytes f) has.rest)) in
    record { is = has.is; spelled = has.spelled ∙ ap (λ (xs : List ℕ). frame_bytes f ++ xs) none ∙ append-nil (frame_bytes f) }
  where
    no_items : (xs : List ℕ) → length xs ≡ 0 → xs ≡ []
    no_items [] e = refl
    no_items (y ∷ ys) e = absurd (omega arith)

pub more_than_it : (x : List ℕ) (f : FrameFields) → HasFrame x f → (length (frame_bytes f) ≡ length x → ⊥) → IsFollowed x
more_than_it x f has differ = record {
  frame = f;
  has = has;
  more = omega (arith, differ, ap length has.spelled, length-append (frame_bytes f) has.rest);
}

-- ---- they are one at a time

-- what an answer says, by the three readings
record Says (x : List ℕ) (fault : FrameFault) : Type 0 where
  answer : Result (Option (FrameFields × ℕ)) FrameFault
  reading : IsReading x answer

abbrev Cases : List ℕ → FrameFault → Type 0
Cases x fault = IsFault x fault ⊎ ((IsProperBeginning x × (fault ≡ Truncated)) ⊎ (IsFollowed x × (fault ≡ Trailing)))

cases : (x : List ℕ) (fault : FrameFault) → IsOneReading x (Err fault) → Cases x fault
cases x BadLength wrong = inl wrong
cases x BadVersion wrong = inl wrong
cases x BadKind wrong = inl wrong
cases x BadValueLength wrong = inl wrong
cases x BadSeq wrong = inl wrong
cases x BadWant wrong = inl wrong
cases x Truncated begins = inr (inl (begins, refl))
cases x Trailing more = inr (inr (more, refl))

abbrev Answer : Type 0
Answer = Result (Option (FrameFields × ℕ)) FrameFault

begins_or_fault : (x : List ℕ) (fault : FrameFault) → IsProperBeginning x → IsFault x fault → ⊥
begins_or_fault x fault begins wrong =
    let none : Answer = Ok None in
    let some : Answer = Err fault in
    let same : none ≡ some = one_reading x none some begins wrong in
    cc

same_fault : (x : List ℕ) (j k : FrameFault) → IsFault x j → IsFault x k → j ≡ k
same_fault x j k p q =
    let one : Answer = Err j in
    let other : Answer = Err k in
    let same : one ≡ other = one_reading x one other p q in
    cc

front_of : (x : List ℕ) (f : FrameFields) → IsOneFrame x f → HasFrame x f
front_of x f one = record { is = one.is; rest = []; spelled = one.spelled ∙ sym (append-nil (frame_bytes f)) }

not_longer : (x : List ℕ) (f : FrameFields) → IsOneFrame x f → IsFollowed x → ⊥
not_longer x f one more =
    let has = more.has in
    let front = same_front f more.frame [] has.rest one.is has.is (append-nil (frame_bytes f) ∙ sym one.spelled ∙ has.spelled) in
    omega (arith, more.more, ap length front.rest)

pub no_fault : (x : List ℕ) (f : FrameFields) (fault : FrameFault) → IsOneFrame x f → IsOneReading x (Err fault) → ⊥
no_fault x f fault one failed =
    elim (cases x fault failed) [
      | inl wrong ↦ wrong.no_frame f (front_of x f one)
      | inr (inl begins) ↦ drained_from_beginning x begins.0 f (front_of x f one)
      | inr (inr more) ↦ not_longer x f one more.0
    ]

same_failure : (x : List ℕ) (j k : FrameFault) → Cases x j → Cases x k → j ≡ k
same_failure x j k (inl p) (inl q) = same_fault x j k p q
same_failure x j k (inl p) (inr (inl q)) = absurd (begins_or_fault x j q.0 p)
same_failure x j k (inl p) (inr (inr q)) = let more = q.0 in absurd (p.no_frame more.frame more.has)
same_failure x j k (inr (inl p)) (inl q) = absurd (begins_or_fault x k p.0 q)
same_failure x j k (inr (inl p)) (inr (inl q)) = p.1 ∙ sym q.1
same_failure x j k (inr (inl p)) (inr (inr q)) = let more = q.0 in absurd (drained_from_beginning x p.0 more.frame more.has)
same_failure x j k (inr (inr p)) (inl q) = let more = p.0 in absurd (q.no_frame more.frame more.has)
same_failure x j k (inr (inr p)) (inr (inl q)) = let more = p.0 in absurd (drained_from_beginning x q.0 more.frame more.has)
same_failure x j k (inr (inr p)) (inr (inr q)) = p.1 ∙ sym q.1

pub one_answer : (x : List ℕ) (r s : Result FrameFields FrameFault) → IsOneReading x r → IsOneReading x s → r ≡ s
one_answer x (Ok f) (Ok g) p q =
    let front = same_front f g [] [] p.is q.is (append-nil (frame_bytes f) ∙ sym p.spelled ∙ q.spelled ∙ sym (append-nil (frame_bytes g))) in
    let same : f ≡ g = front.frame in
    cc
one_answer x (Ok f) (Err k) p q = absurd (no_fault x f k p q)
one_answer x (Err j) (Ok g) p q = absurd (no_fault x g j q p)
one_answer x (Err j) (Err k) p q = let same = same_failure x j k (cases x j p) (cases x k q) in cc

-- each reading is one as one frame
abbrev pub OneAnswer : Type 0
OneAnswer = Result FrameFields FrameFault

pub as_one : (x : List ℕ) (answer : Answer) → IsReading x answer → (one : OneAnswer) × IsOneReading x one
as_one x (Ok (Some (f, size))) found = by_rest found.0.rest refl where
  by_rest : (rest : List ℕ) → found.0.rest ≡ rest → (one : OneAnswer) × IsOneReading x one
  by_rest [] e = (Ok f, all_of_it x f found.0 (omega (arith, ap length found.0.spelled, length-append (frame_bytes f) found.0.rest, ap length e)))
  by_rest (y ∷ ys) e = (Err Trailing, record { frame = f; has = found.0; more = omega (arith, ap length e) })
as_one x (Ok None) begins = (Err Truncated, begins)
as_one x (Err fault) wrong = (Err fault, one_fault x fault wrong)
