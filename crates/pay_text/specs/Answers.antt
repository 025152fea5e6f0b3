-- The answers to lines, one after the other.
use Rattle.std.specs.Prelude.{◌≡◌, ℕ, Bool, true, false, List, [], ◌∷◌, ◌++◌, Option}
use Rattle.pay_text.specs.declared.engine.Text.{Text}
use Rattle.pay_text.specs.declared.engine.Text.TheVariants.{Made, Fixed}

-- the bytes of a text
abbrev pub text_bytes : Text → List ℕ
text_bytes (Made made) = made.items
text_bytes (Fixed words) = words.now

-- no text follows, and nothing changed
pub record IsOver {A : Type 0} (text : List ℕ) (on : Bool) (mid last : A) : Type 0 where
  pub silent : text ≡ []
  pub over : on ≡ false
  pub same : last ≡ mid

-- one of two cases
abbrev pub Either : Bool → Type 0 → Type 0 → Type 0
Either true P Q = P
Either false P Q = Q

-- The text of the answers to these lines, up to the first line after which none may follow. `on`
-- says whether a line may still follow, and `last` is the answerer afterwards. `says` relates one
-- line to its effect: the answerer before, the line (nothing if over the bound), the answer,
-- whether a line may follow, and the answerer after.
-- page: `Answers`: the answers to lines, in order, up to one after which no line may follow
abbrev pub Answers : {A : Type 0} → (A → Option (List ℕ) → List ℕ → Bool → A → Type 0) → A
    → List (Option (List ℕ)) → List ℕ → Bool → A → Type 0
Answers {A} says a [] text on last = (text ≡ []) × (on ≡ true) × (last ≡ a)
Answers {A} says a (line ∷ lines) text on last =
    (first rest : List ℕ) × (goes : Bool) × (mid : A) × says a line first goes mid
    × (text ≡ first ++ rest)
    × Either goes (Answers says mid lines rest on last) (IsOver rest on mid last)
