-- The lists of accounts, by their numbers.
use Rattle.std.specs.Prelude.{ℕ, List, [], slice_index_or}

-- what is no account has no values
abbrev pub list_of_owner : List (List (List ℕ)) → ℕ → List (List ℕ)
list_of_owner lists owner = slice_index_or lists owner []
