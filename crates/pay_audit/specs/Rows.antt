-- Values that are stored one after the other, with the place at which each ends.
use Rattle.std.specs.Prelude.{◌≡◌, ℕ, ◌≤◌, List, [], ◌∷◌, slice_range}

-- the values from this byte on: each begins at the end of the one before it
abbrev pub rows_from : ℕ → List ℕ → List ℕ → List (List ℕ)
rows_from start bytes [] = []
rows_from start bytes (end ∷ ends) = slice_range bytes start end ∷ rows_from end bytes ends

-- no value ends before it begins, and the last ends with all bytes
abbrev pub AreRows : ℕ → ℕ → List ℕ → Type 0
AreRows start all [] = start ≡ all
AreRows start all (end ∷ ends) = (start ≤ end) × AreRows end all ends
