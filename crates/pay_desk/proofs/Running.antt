-- Lines behind each of which one may follow.
use Rattle.std.proofs.Common.{◌≡◌, ℕ, Bool, true, false, List, [], ◌∷◌, subst, Ok, Some, None}
use Rattle.std.specs.Prelude.{Option, IfSome}
use Rattle.std.specs.Io.KnownBytes.{IsAtEnd}
use Rattle.pay_text.specs.Answers.{Answers, Either}
use Rattle.pay_text.specs.Engine.{Answering, AnswersAll, Dialogue, WritesByEnd}
use Rattle.pay_text.specs.Lines.{lines_within}

abbrev answering : {A : Type 0} → (A → Option (List ℕ) → List ℕ → Bool → A → Type 0) → (A → A → Type 0) → Answering A
answering says gives_up = record { says = says; gives_up = gives_up }

abbrev said_by : {A : Type 0} → A → Option (List ℕ) → Dialogue A
said_by a written = record { answerer = a; written = written }

module _ {A : Type 0} (says : A → Option (List ℕ) → List ℕ → Bool → A → Type 0) (follows : (a : A) (line : Option (List ℕ)) (text : List ℕ) (on : Bool) (new : A) → says a line text on new → on ≡ true) where
  goes_on : (lines : List (Option (List ℕ))) (a : A) (text : List ℕ) (on : Bool) (new : A) → Answers says a lines text on new → on ≡ true
  goes_on [] a text on new (silent, goes, same) = goes
  goes_on (line ∷ lines) a text on new (first, rest, true, mid, said, parts, after) = goes_on lines mid rest on new after
  goes_on (line ∷ lines) a text on new (first, rest, false, mid, said, parts, after) = absurd (let bad : false ≡ true = follows a line first false mid said in cc)

  -- an engine that ended well came to the input's end
  pub to_end : (gives_up : A → A → Type 0) (bound : ℕ) (old new : A) (input left before after : Option (List ℕ)) (on : Bool) → WritesByEnd (answering says gives_up) bound (said_by old before) (said_by new after) input left (Ok on)
      → IfSome input (λ bytes. AnswersAll says (lines_within bound bytes) (said_by old before) (said_by new after) true × IsAtEnd left)
  to_end gives_up bound old new None left before after on (all, end) = tt
  to_end gives_up bound old new (Some bytes) left before after on (all, end) =
      let e : on ≡ true = goes_on (lines_within bound bytes) old all.text on new all.answers in (
        record { text = all.text; answers = subst (λ (b : Bool). Answers says old (lines_within bound bytes) all.text b new) e all.answers; written = all.written },
        subst (λ (b : Bool). Either b (IsAtEnd left) Unit) e end,
      )
