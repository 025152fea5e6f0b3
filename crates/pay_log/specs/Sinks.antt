-- Payloads that are accepted one after the other.
use Rattle.std.specs.Prelude.{◌≡◌, List, [], ◌∷◌, ℕ}

-- Accepting these payloads, in their order, leads from `old` to `new`.
abbrev pub TakesAll : {S : Type 0} → (S → S → List ℕ → Type 0) → S → S → List (List ℕ) → Type 0
TakesAll {S = S} takes old new [] = new ≡ old
TakesAll {S = S} takes old new (p ∷ ps) = (mid : S) × takes old mid p × TakesAll takes mid new ps
