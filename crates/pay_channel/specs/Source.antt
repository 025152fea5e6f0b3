-- The owners' lists of values, and how they may change.
use Rattle.std.specs.Prelude.{◌≡◌, ◌≢◌, ℕ, List, ◌++◌}

-- From the old lists to the new ones only this owner's list grew, and only at its end.
pub record GrowsOnly (old new : ℕ → List (List ℕ)) (owner : ℕ) : Type 0 where
  pub grown : (more : List (List ℕ)) × (new owner ≡ old owner ++ more)
  pub others : (a : ℕ) → a ≢ owner → new a ≡ old a
