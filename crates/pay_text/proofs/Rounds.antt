-- The engine between two reads, and how it ends.
use Rattle.std.proofs.Common.{◌≡◌, ℕ, ◌+◌, ◌<◌, ◌≤◌, List, [], ◌∷◌, ◌++◌, length, refl, sym, ◌∙◌, ap, subst, arith, length-append, true, false, Some, None, Bool, Ok, inl}
use Rattle.std.specs.Prelude.{Option, Result, IfSome}
use Rattle.std.specs.Io.KnownBytes.{Consumes, IsAtEnd}
use Rattle.std.proofs.KnownBytes.{Consumes-nil, Consumes-trans}
use Rattle.pay_frame.specs.declared.device.StreamFault.{StreamFault}
use Rattle.pay_frame.specs.Device.{Gave}
use Rattle.pay_text.specs.Lines.{lines_within}
use Rattle.pay_text.specs.Cutting.{is_nothing, last_line, lines_after}
use Rattle.pay_text.specs.Engine.{AnswersAll, AnswersFirst, AnswersUntil, AnswersSome, IsGoing, WritesByEnd, lines_left}
use Rattle.pay_text.proofs.Answering.{intake, answering, said_by, went_nowhere, goes_further, all_further, first_further, broken_off, nothing_left}
use Rattle.pay_text.proofs.Following.{lines_from_start}

some_weaker : {X : Type 0} (o : Option X) (P Q : X → Type 0) → ((x : X) → P x → Q x) → IfSome o P → IfSome o Q
some_weaker None P Q f h = tt
some_weaker (Some x) P Q f h = f x h

last_is_one : (begun : Option (List ℕ)) → is_nothing begun ≡ false → last_line begun ≡ begun ∷ []
last_is_one None some = refl
last_is_one (Some []) some = absurd cc
last_is_one (Some (b ∷ line)) some = refl

last_is_none : (begun : Option (List ℕ)) → is_nothing begun ≡ true → last_line begun ≡ []
last_is_none None none = absurd cc
last_is_none (Some []) none = refl
last_is_none (Some (b ∷ line)) none = absurd cc

-- at the end nothing is left but the line that has begun
at_the_end : (bound : ℕ) (begun : Option (List ℕ)) (l l1 : List ℕ) → l ≡ [] ++ l1 → l1 ≡ [] → lines_after bound begun l ≡ last_line begun
unfolding lines_after
at_the_end bound begun l l1 parts none = ap (lines_after bound begun) (parts ∙ none)

module _ {A : Type 0} (says : A → Option (List ℕ) → List ℕ → Bool → A → Type 0) (gives_up : A → A → Type 0) (bound : ℕ) where
  pub going_at_start : (a : A) (r w : Option (List ℕ)) (begun : Option (List ℕ)) → begun ≡ Some [] → IsGoing says bound begun (intake r r 0) (said_by a w) (said_by a w)
  going_at_start a r w begun start = record {
    read = [];
    consumed = Consumes-nil r;
    many = omega arith;
    went = at_start r;
  } where
    at_start : (r : Option (List ℕ)) → IfSome r (λ bytes. AnswersUntil says (lines_within bound bytes) (lines_left bound begun r) (said_by a w) (said_by a w))
    at_start None = tt
    at_start (Some bytes) = subst (λ ls. AnswersUntil says (lines_within bound bytes) ls (said_by a w) (said_by a w)) (sym (lines_from_start bound bytes) ∙ ap (λ b. lines_after bound b bytes) (sym start)) (went_nowhere says (lines_within bound bytes) a w)

  pub broken : (begun : Option (List ℕ)) (old a : A) (input left before w : Option (List ℕ)) (reads : ℕ) → IsGoing says bound begun (intake input left reads) (said_by old before) (said_by a w) → IfSome input (λ bytes. AnswersFirst (answering says gives_up) (lines_within bound bytes) (said_by old before) (said_by a w))
  broken begun old a input left before w reads g =
      some_weaker input (λ bytes. AnswersUntil says (lines_within bound bytes) (lines_left bound begun left) (said_by old before) (said_by a w)) (λ bytes. AnswersFirst (answering says gives_up) (lines_within bound bytes) (said_by old before) (said_by a w))
      (λ bytes went. first_further says gives_up (lines_within bound bytes) (lines_left bound begun left) old a a before w w went (broken_off says gives_up (lines_left bound begun left) a a w (inl refl))) g.went

  piece_of : (begun begun1 : Option (List ℕ)) (old a b : A) (input left left1 before w w1 : Option (List ℕ)) (read piece : List ℕ) (r : Result Bool StreamFault) → Consumes input left read → Consumes left left1 piece
      → IfSome input (λ bytes. AnswersUntil says (lines_within bound bytes) (lines_left bound begun left) (said_by old before) (said_by a w))
      → ((more : List ℕ) → AnswersSome (answering says gives_up) (lines_after bound begun (piece ++ more)) (lines_after bound begun1 more) (said_by a w) (said_by b w1) r)
      → IfSome input (λ bytes. AnswersSome (answering says gives_up) (lines_within bound bytes) (lines_left bound begun1 left1) (said_by old before) (said_by b w1) r)
  piece_of begun begun1 old a b None left left1 before w w1 read piece r c d went goes = tt
  piece_of begun begun1 old a b (Some bytes) None left1 before w w1 read piece r c d went goes = absurd c
  piece_of begun begun1 old a b (Some bytes) (Some l) None before w w1 read piece r c d went goes = absurd d
  piece_of begun begun1 old a b (Some bytes) (Some l) (Some l1) before w w1 read piece r c d went goes =
      goes_further says gives_up (lines_within bound bytes) (lines_after bound begun (piece ++ l1)) (lines_after bound begun1 l1) old a b before w w1 r
      (subst (λ xs. AnswersUntil says (lines_within bound bytes) (lines_after bound begun xs) (said_by old before) (said_by a w)) d went) (goes l1)

  pub piece_goes : (begun begun1 : Option (List ℕ)) (old a b : A) (input left left1 before w w1 : Option (List ℕ)) (reads : ℕ) (piece : List ℕ) (r : Result Bool StreamFault) → IsGoing says bound begun (intake input left reads) (said_by old before) (said_by a w) → Consumes left left1 piece
      → ((more : List ℕ) → AnswersSome (answering says gives_up) (lines_after bound begun (piece ++ more)) (lines_after bound begun1 more) (said_by a w) (said_by b w1) r)
      → IfSome input (λ bytes. AnswersSome (answering says gives_up) (lines_within bound bytes) (lines_left bound begun1 left1) (said_by old before) (said_by b w1) r)
  piece_goes begun begun1 old a b input left left1 before w w1 reads piece r g d goes = piece_of begun begun1 old a b input left left1 before w w1 g.read piece r g.consumed d g.went goes

  pub goes_on : (begun begun1 : Option (List ℕ)) (old a b : A) (input left left1 before w w1 : Option (List ℕ)) (reads : ℕ) (piece : List ℕ) → IsGoing says bound begun (intake input left reads) (said_by old before) (said_by a w) → Consumes left left1 piece → 0 < length piece
      → ((more : List ℕ) → AnswersSome (answering says gives_up) (lines_after bound begun (piece ++ more)) (lines_after bound begun1 more) (said_by a w) (said_by b w1) (Ok true))
      → IsGoing says bound begun1 (intake input left1 (reads + 1)) (said_by old before) (said_by b w1)
  goes_on begun begun1 old a b input left left1 before w w1 reads piece g d some goes =
      let many = g.many in
      record {
        read = g.read ++ piece;
        consumed = Consumes-trans input left left1 g.read piece g.consumed d;
        many = omega (arith, length-append g.read piece);
        went = piece_goes begun begun1 old a b input left left1 before w w1 reads piece (Ok true) g d goes;
      }

  -- at the input's end

  end_of : (begun : Option (List ℕ)) (old a : A) (input left left1 before w : Option (List ℕ)) (read : List ℕ) → Consumes input left read → Consumes left left1 [] → IsAtEnd left1
      → IfSome input (λ bytes. AnswersUntil says (lines_within bound bytes) (lines_left bound begun left) (said_by old before) (said_by a w)) → IfSome input (λ bytes. AnswersUntil says (lines_within bound bytes) (last_line begun) (said_by old before) (said_by a w))
  end_of begun old a None left left1 before w read c d end went = tt
  end_of begun old a (Some bytes) None left1 before w read c d end went = absurd c
  end_of begun old a (Some bytes) (Some l) None before w read c d end went = absurd d
  end_of begun old a (Some bytes) (Some l) (Some l1) before w read c d end went = subst (λ ls. AnswersUntil says (lines_within bound bytes) ls (said_by old before) (said_by a w)) (at_the_end bound begun l l1 d end) went

  pub ends_empty : (begun : Option (List ℕ)) (old a : A) (input left left1 before w : Option (List ℕ)) (reads : ℕ) → IsGoing says bound begun (intake input left reads) (said_by old before) (said_by a w) → Consumes left left1 [] → IsAtEnd left1 → is_nothing begun ≡ true
      → IfSome input (λ bytes. AnswersAll says (lines_within bound bytes) (said_by old before) (said_by a w) true)
  ends_empty begun old a input left left1 before w reads g d end none =
      some_weaker input (λ bytes. AnswersUntil says (lines_within bound bytes) (last_line begun) (said_by old before) (said_by a w)) (λ bytes. AnswersAll says (lines_within bound bytes) (said_by old before) (said_by a w) true)
      (λ bytes went. all_further says (lines_within bound bytes) [] old a a before w w true (subst (λ ls. AnswersUntil says (lines_within bound bytes) ls (said_by old before) (said_by a w)) (last_is_none begun none) went) (nothing_left says a w))
      (end_of begun old a input left left1 before w g.read g.consumed d end g.went)

  pub last_goes : (begun : Option (List ℕ)) (old a b : A) (input left left1 before w w1 : Option (List ℕ)) (reads : ℕ) (r : Result Bool StreamFault) → IsGoing says bound begun (intake input left reads) (said_by old before) (said_by a w) → Consumes left left1 [] → IsAtEnd left1 → is_nothing begun ≡ false
      → AnswersSome (answering says gives_up) (begun ∷ []) [] (said_by a w) (said_by b w1) r → IfSome input (λ bytes. AnswersSome (answering says gives_up) (lines_within bound bytes) [] (said_by old before) (said_by b w1) r)
  last_goes begun old a b input left left1 before w w1 reads r g d end some goes =
      some_weaker input (λ bytes. AnswersUntil says (lines_within bound bytes) (last_line begun) (said_by old before) (said_by a w)) (λ bytes. AnswersSome (answering says gives_up) (lines_within bound bytes) [] (said_by old before) (said_by b w1) r)
      (λ bytes went. goes_further says gives_up (lines_within bound bytes) (begun ∷ []) [] old a b before w w1 r (subst (λ ls. AnswersUntil says (lines_within bound bytes) ls (said_by old before) (said_by a w)) (last_is_one begun some) went) goes)
      (end_of begun old a input left left1 before w g.read g.consumed d end g.went)

  -- with no lines left all are answered
  pub all_gone : (old a : A) (input before w : Option (List ℕ)) → IfSome input (λ bytes. AnswersSome (answering says gives_up) (lines_within bound bytes) [] (said_by old before) (said_by a w) (Ok true)) → IfSome input (λ bytes. AnswersAll says (lines_within bound bytes) (said_by old before) (said_by a w) true)
  all_gone old a input before w goes =
      some_weaker input (λ bytes. AnswersSome (answering says gives_up) (lines_within bound bytes) [] (said_by old before) (said_by a w) (Ok true)) (λ bytes. AnswersAll says (lines_within bound bytes) (said_by old before) (said_by a w) true)
      (λ bytes went. all_further says (lines_within bound bytes) [] old a a before w w true went (nothing_left says a w)) goes

  pub gave : (begun : Option (List ℕ)) (old a : A) (input left before w : Option (List ℕ)) (reads count : ℕ) → IsGoing says bound begun (intake input left reads) (said_by old before) (said_by a w) → count ≤ reads → Gave count input left
  gave begun old a input left before w reads count g le = let many = g.many in (g.read, g.consumed, omega arith)

  pub last_writes : (begun : Option (List ℕ)) (old a b : A) (input left left1 before w w1 : Option (List ℕ)) (reads : ℕ) (on : Bool) → IsGoing says bound begun (intake input left reads) (said_by old before) (said_by a w) → Consumes left left1 [] → IsAtEnd left1 → is_nothing begun ≡ false
      → AnswersSome (answering says gives_up) (begun ∷ []) [] (said_by a w) (said_by b w1) (Ok on) → WritesByEnd (answering says gives_up) bound (said_by old before) (said_by b w1) input left1 (Ok on)
  last_writes begun old a b input left left1 before w w1 reads true g d end some goes = (all_gone old b input before w1 (last_goes begun old a b input left left1 before w w1 reads (Ok true) g d end some goes), end)
  last_writes begun old a b input left left1 before w w1 reads false g d end some goes = (last_goes begun old a b input left left1 before w w1 reads (Ok false) g d end some goes, tt)
