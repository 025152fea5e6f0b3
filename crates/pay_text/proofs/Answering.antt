-- Answers to lines, one after the other.
use Rattle.std.proofs.Common.{◌≡◌, ℕ, ◌+◌, List, [], ◌∷◌, ◌++◌, length, take, refl, sym, ◌∙◌, ap, subst, arith, append_assoc, append-nil, length-append, true, false, Bool, Ok, Err, inl}
use Rattle.std.specs.Prelude.{Option, Result, ◌⊎◌}
use Rattle.std.specs.Io.KnownBytes.{Appends}
use Rattle.std.proofs.KnownBytes.{Appends-nil, Appends-trans}
use Rattle.std.proofs.Math.Seq.{take-append-add}
use Rattle.pay_frame.specs.declared.device.StreamFault.{StreamFault}
use Rattle.pay_frame.specs.Device.{WroteBeginning}
use Rattle.pay_text.specs.Answers.{Answers}
use Rattle.pay_text.specs.Engine.{Answering, AnswersAll, AnswersFirst, AnswersUntil, AnswersSome, Dialogue, Intake}

abbrev pub answering : {A : Type 0} → (A → Option (List ℕ) → List ℕ → Bool → A → Type 0) → (A → A → Type 0) → Answering A
answering says gives_up = record { says = says; gives_up = gives_up }

abbrev pub said_by : {A : Type 0} → A → Option (List ℕ) → Dialogue A
said_by a written = record { answerer = a; written = written }

abbrev pub intake : Option (List ℕ) → Option (List ℕ) → ℕ → Intake
intake input left reads = record { input = input; left = left; reads = reads }

module _ {A : Type 0} (says : A → Option (List ℕ) → List ℕ → Bool → A → Type 0) where
  pub answers_one : (a new : A) (line : Option (List ℕ)) (text : List ℕ) (on : Bool) → says a line text on new → Answers says a (line ∷ []) text on new
  answers_one a new line text true said = (text, [], true, new, said, sym (append-nil text), (refl, refl, refl))
  answers_one a new line text false said = (text, [], false, new, said, sym (append-nil text), record { silent = refl; over = refl; same = refl })

  pub answers_last : (a new : A) (line : Option (List ℕ)) (others : List (Option (List ℕ))) (text : List ℕ) → says a line text false new → Answers says a (line ∷ others) text false new
  answers_last a new line others text said = (text, [], false, new, said, sym (append-nil text), record { silent = refl; over = refl; same = refl })

  pub answers_join : (a mid new : A) (first others : List (Option (List ℕ))) (text more : List ℕ) (on : Bool) → Answers says a first text true mid → Answers says mid others more on new → Answers says a (first ++ others) (text ++ more) on new
  answers_join a mid new [] others text more on (silent, goes, same) rest =
      subst (λ (t : List ℕ). Answers says a others (t ++ more) on new) (sym silent) (subst (λ (b : A). Answers says b others more on new) same rest)
  answers_join a mid new (line ∷ first) others text more on (front, back, true, next, said, parts, after) rest =
      (front, back ++ more, true, next, said, ap (λ (t : List ℕ). t ++ more) parts ∙ append_assoc front back more, answers_join next mid new first others back more on after rest)
  answers_join a mid new (line ∷ first) others text more on (front, back, false, next, said, parts, after) rest = absurd (let h = after.over in cc)

  pub went_nowhere : (lines : List (Option (List ℕ))) (a : A) (w : Option (List ℕ)) → AnswersUntil says lines lines (said_by a w) (said_by a w)
  went_nowhere lines a w = record { answered = []; parts = refl; text = []; answers = (refl, refl, refl); written = Appends-nil w }

  pub went_further : (lines mid left : List (Option (List ℕ))) (old a new : A) (before w after : Option (List ℕ)) → AnswersUntil says lines mid (said_by old before) (said_by a w) → AnswersUntil says mid left (said_by a w) (said_by new after) → AnswersUntil says lines left (said_by old before) (said_by new after)
  went_further lines mid left old a new before w after p q = record {
    answered = p.answered ++ q.answered;
    parts = p.parts ∙ ap (λ (ls : List (Option (List ℕ))). p.answered ++ ls) q.parts ∙ sym (append_assoc p.answered q.answered left);
    text = p.text ++ q.text;
    answers = answers_join old a new p.answered q.answered p.text q.text true p.answers q.answers;
    written = Appends-trans before w after p.text q.text p.written q.written;
  }

  pub all_further : (lines mid : List (Option (List ℕ))) (old a new : A) (before w after : Option (List ℕ)) (on : Bool) → AnswersUntil says lines mid (said_by old before) (said_by a w) → AnswersAll says mid (said_by a w) (said_by new after) on → AnswersAll says lines (said_by old before) (said_by new after) on
  all_further lines mid old a new before w after on p q = record {
    text = p.text ++ q.text;
    answers = subst (λ (ls : List (Option (List ℕ))). Answers says old ls (p.text ++ q.text) on new) (sym p.parts) (answers_join old a new p.answered mid p.text q.text on p.answers q.answers);
    written = Appends-trans before w after p.text q.text p.written q.written;
  }

  pub nothing_left : (a : A) (w : Option (List ℕ)) → AnswersAll says [] (said_by a w) (said_by a w) true
  nothing_left a w = record { text = []; answers = (refl, refl, refl); written = Appends-nil w }

module _ {A : Type 0} (says : A → Option (List ℕ) → List ℕ → Bool → A → Type 0) (gives_up : A → A → Type 0) where
  pub first_further : (lines mid : List (Option (List ℕ))) (old a new : A) (before w after : Option (List ℕ)) → AnswersUntil says lines mid (said_by old before) (said_by a w) → AnswersFirst (answering says gives_up) mid (said_by a w) (said_by new after) → AnswersFirst (answering says gives_up) lines (said_by old before) (said_by new after)
  first_further lines mid old a new before w after p q =
      let wrote = q.wrote in
      let within = wrote.within in
      let front : take (length p.text + wrote.count) (p.text ++ q.text) ≡ p.text ++ take wrote.count q.text = take-append-add p.text q.text wrote.count in
      record {
        first = p.answered ++ q.first;
        others = q.others;
        parts = p.parts ∙ ap (λ (ls : List (Option (List ℕ))). p.answered ++ ls) q.parts ∙ sym (append_assoc p.answered q.first q.others);
        text = p.text ++ q.text;
        on = q.on;
        mid = q.mid;
        answers = answers_join says old a q.mid p.answered q.first p.text q.text q.on p.answers q.answers;
        wrote = record {
          count = length p.text + wrote.count;
          within = omega (arith, length-append p.text q.text);
          written = subst (λ (xs : List ℕ). Appends before after xs) (sym front) (Appends-trans before w after p.text (take wrote.count q.text) p.written wrote.written);
        };
        ends = q.ends;
      }

  pub goes_further : (lines mid left : List (Option (List ℕ))) (old a new : A) (before w after : Option (List ℕ)) (r : Result Bool StreamFault) → AnswersUntil says lines mid (said_by old before) (said_by a w) → AnswersSome (answering says gives_up) mid left (said_by a w) (said_by new after) r → AnswersSome (answering says gives_up) lines left (said_by old before) (said_by new after) r
  goes_further lines mid left old a new before w after (Ok true) p q = went_further says lines mid left old a new before w after p q
  goes_further lines mid left old a new before w after (Ok false) p q = all_further says lines mid old a new before w after false p q
  goes_further lines mid left old a new before w after (Err fault) p q = first_further lines mid old a new before w after p q

  none_written : (w : Option (List ℕ)) → WroteBeginning w w []
  none_written w = record { count = 0; within = omega arith; written = Appends-nil w }

  -- nothing more is answered
  pub broken_off : (lines : List (Option (List ℕ))) (a new : A) (w : Option (List ℕ)) → (new ≡ a) ⊎ gives_up a new → AnswersFirst (answering says gives_up) lines (said_by a w) (said_by new w)
  broken_off lines a new w ends = record { first = []; others = lines; parts = refl; text = []; on = true; mid = a; answers = (refl, refl, refl); wrote = none_written w; ends = ends }

  -- one line is answered, and its answer written
  pub one_answered : (a new : A) (line : Option (List ℕ)) (left : List (Option (List ℕ))) (text : List ℕ) (on : Bool) (w after : Option (List ℕ)) → says a line text on new → Appends w after text → AnswersSome (answering says gives_up) (line ∷ left) left (said_by a w) (said_by new after) (Ok on)
  one_answered a new line left text true w after said appended = record { answered = line ∷ []; parts = refl; text = text; answers = answers_one says a new line text true said; written = appended }
  one_answered a new line left text false w after said appended = record { text = text; answers = answers_last says a new line left text said; written = appended }

  -- or not all of its answer is
  pub one_broken : (a new : A) (line : Option (List ℕ)) (left : List (Option (List ℕ))) (text : List ℕ) (on : Bool) (w after : Option (List ℕ)) → says a line text on new → WroteBeginning w after text → AnswersFirst (answering says gives_up) (line ∷ left) (said_by a w) (said_by new after)
  one_broken a new line left text on w after said wrote = record { first = line ∷ []; others = left; parts = refl; text = text; on = on; mid = new; answers = answers_one says a new line text on said; wrote = wrote; ends = inl refl }
