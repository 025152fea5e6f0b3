-- What a desk keeps: each submitted value, oldest first, with its id and the number that it got.
use Rattle.std.specs.Prelude.{ℕ, ◌==◌, Bool, false, List, [], ◌∷◌, ◌++◌, Option, Some, None, Result}
use Rattle.std.specs.Prelude.{Ok, Err}
use Rattle.std.specs.List.{find}
use Rattle.std.specs.Str.{bytes_eq}
use Rattle.pay_desk.specs.declared.kept.Kept.{Kept}
use Rattle.pay_desk.specs.declared.fault.TellerFault.{TellerFault}

-- what is kept under an id, if the id was used
unfoldable pub kept_under : ℕ → List Kept → Option Kept
kept_under id kept = find (λ k. k.id == id) kept

-- whether this is the value
abbrev pub is_value : Option (List ℕ) → List ℕ → Bool
is_value None kept = false
is_value (Some value) kept = bytes_eq value kept

-- what is kept after a submission: a refused one keeps nothing
abbrev pub kept_after : List Kept → ℕ → List ℕ → Result ℕ TellerFault → List Kept
kept_after kept id value (Ok seq) = kept ++ record { id = id; value = value; seq = seq } ∷ []
kept_after kept id value (Err fault) = kept
