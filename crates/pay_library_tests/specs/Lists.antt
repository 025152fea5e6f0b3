-- Lists of values held in vectors.
use Rattle.std.specs.Prelude.{ℕ, zero, suc, ◌≤◌, List, [], ◌∷◌, map, All, Vec, vec_len}
use Rattle.std.specs.Global.{Global}
use Rattle.pay_frame.specs.declared.limits.TheConstants.{SEQS}

-- the values of an owner; an owner past the end has none
abbrev pub owner_values : List (Vec (Vec ℕ Global) Global) → ℕ → List (List ℕ)
owner_values [] owner = []
owner_values (list ∷ lists) zero = map (λ v. v.items) list.items
owner_values (list ∷ lists) (suc owner) = owner_values lists owner

-- no owner has more values than there are numbers for them
abbrev pub AreShortLists : List (Vec (Vec ℕ Global) Global) → Type 0
AreShortLists lists = All (λ list. vec_len list ≤ SEQS) lists
