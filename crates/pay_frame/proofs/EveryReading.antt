-- Any bytes read in one of the three ways.
use Rattle.std.proofs.Common.{◌≡◌, ℕ, zero, suc, ◌+◌, ◌<◌, ◌≤◌, true, false, Bool, List, [], ◌∷◌, ◌++◌, length, take, refl, sym, ◌∙◌, ap, arith, Some, None, Option, Result, Ok, Err, min, below_more, inl, inr, ◌⊎◌}
use Rattle.std.proofs.lemmas.Bool.{false≢true, cases_lt}
use Rattle.std.proofs.lemmas.List.{append-nil, length-take-le}
use Rattle.pay_frame.specs.declared.reading.FrameFault.{FrameFault}
use Rattle.pay_frame.specs.declared.reading.FrameFault.TheVariants.{BadLength, BadVersion, BadValueLength, BadWant}
use Rattle.pay_frame.specs.Frame.{FrameFields, frame_bytes}
use Rattle.pay_frame.specs.Places.{length_field, may_stand, PassBelow, IsFirstWrong}
use Rattle.pay_frame.specs.Reading.{IsReading, fault_at}
use Rattle.pay_frame.specs.Stream.{IsBytes}
use Rattle.pay_frame.proofs.Lists.{IsBytes-take, at_each}
use Rattle.pay_frame.proofs.Passing.{head_from_passing}
use Rattle.pay_frame.proofs.Answering.{fault_from, beginning_from_short, beginning_from_long, frame_from, size_of_whole}
use Rattle.pay_frame.proofs.Starting.{starts_long}

-- ---- a byte that may not stand names a fault

abbrev Names : List ℕ → ℕ → Type 0
Names x place = (fault : FrameFault) × (fault_at x place ≡ Some fault)

never : (x : List ℕ) (place : ℕ) → may_stand x place ≡ false → may_stand x place ≡ true → Names x place
never x place p q = absurd (false≢true (sym p ∙ q))

named_at : (x : List ℕ) (place : ℕ) → place < 24 → may_stand x place ≡ false → Names x place
named_at x place lt =
    at_each (λ p. may_stand x p ≡ false → Names x p)
    (λ h. (BadLength, refl)) (λ h. (BadLength, refl)) (λ h. (BadVersion, refl)) (λ h. (_, refl))
    (λ h. never x 4 h refl) (λ h. never x 5 h refl) (λ h. never x 6 h refl) (λ h. never x 7 h refl)
    (λ h. never x 8 h refl) (λ h. never x 9 h refl) (λ h. never x 10 h refl) (λ h. never x 11 h refl)
    (λ h. never x 12 h refl) (λ h. never x 13 h refl) (λ h. never x 14 h refl) (λ h. never x 15 h refl)
    (λ h. (BadWant, refl)) (λ h. (BadWant, refl))
    (λ h. (_, refl)) (λ h. (_, refl)) (λ h. (_, refl)) (λ h. (_, refl))
    (λ h. (BadValueLength, refl)) (λ h. (BadValueLength, refl))
    place lt

-- ---- the first places pass, or one of them is the first that doesn't

record FirstWrong (x : List ℕ) (n : ℕ) : Type 0 where
  place : ℕ
  below : place < n
  pass : PassBelow x place
  wrong : may_stand x place ≡ false

either : (b : Bool) → (b ≡ true) ⊎ (b ≡ false)
either true = inl refl
either false = inr refl

judged : (x : List ℕ) (n : ℕ) → PassBelow x n ⊎ FirstWrong x n
judged x zero = inl (λ k lt. absurd (omega arith))
judged x (suc n) =
    elim (judged x n) [
      | inr first ↦
          let lt = first.below in
          inr (record { place = first.place; below = omega arith; pass = first.pass; wrong = first.wrong })
      | inl pass ↦ elim (either (may_stand x n)) [
        | inl stands ↦ inl (λ k lt. below_more (λ k. may_stand x k ≡ true) n pass stands k (omega arith))
        | inr wrong ↦ inr (record { place = n; below = omega arith; pass = pass; wrong = wrong })
      ]
    ]

-- ---- the answer

pub record Read (x : List ℕ) : Type 0 where
  pub answer : Result (Option (FrameFields × ℕ)) FrameFault
  pub is : IsReading x answer

at_fault : (x : List ℕ) → IsBytes x → (place : ℕ) → place < 24 → place < length x → PassBelow x place → may_stand x place ≡ false → Read x
at_fault x is place small within pass wrong =
    let name = named_at x place small wrong in
    let first : IsFirstWrong x place = (small, within, pass, wrong) in
    record { answer = Err name.0; is = fault_from x place name.0 is first name.1 }

least_size : (x : List ℕ) → PassBelow x 24 → 54 ≤ length_field x
least_size x pass = (head_from_passing x pass).least

empty : (xs : List ℕ) → length xs ≡ 0 → xs ≡ []
empty [] e = refl
empty (x ∷ xs) e = absurd (omega arith)

at_frame : (x : List ℕ) → IsBytes x → 24 ≤ length x → PassBelow x 24 → 2 + length_field x ≤ length x → Read x
at_frame x is long pass within =
    let size : ℕ = 2 + length_field x in
    let sized = size_of_whole x size pass refl within in
    let front : List ℕ = take size x in
    let front-len : length front ≡ size = length-take-le size x within in
    let same-len : length front ≡ 2 + length_field front = sized.whole.length in
    let field : length_field front ≡ length_field x = omega arith in
    let head = sized.whole.head in
    let least = least_size x pass in
    let starts = starts_long front (IsBytes-take size x is) (omega arith) head (omega arith) in
    let s = starts.0 in
    let none : s.rest ≡ [] = empty s.rest (omega (arith, starts.1)) in
    let spelled : frame_bytes s.frame ≡ front = s.spelled ∙ ap (λ (xs : List ℕ). front ++ xs) none ∙ append-nil front in
    record { answer = Ok (Some (s.frame, length (frame_bytes s.frame))); is = (frame_from x size s.frame s.is spelled, refl) }

pub every_reading : (x : List ℕ) → IsBytes x → Read x
every_reading x is =
    elim (judged x (min 24 (length x))) [
      | inr first ↦
          let lt = first.below in
          at_fault x is first.place (omega arith) (omega arith) first.pass first.wrong
      | inl pass ↦ elim (cases_lt (length x) 24) [
        | inl short ↦ record { answer = Ok None; is = beginning_from_short x is short pass }
        | inr long ↦
            let all : PassBelow x 24 = λ p lt. pass p (omega arith) in
            elim (cases_lt (length x) (2 + length_field x)) [
              | inl within ↦ record { answer = Ok None; is = beginning_from_long x is long all within }
              | inr whole ↦ at_frame x is long all whole
            ]
      ]
    ]
