-- The file that a clean end leaves beside a log.
use Rattle.std.specs.Prelude.{ℕ, List, [], ◌∷◌, ◌++◌, decimal}

-- the size of the log in decimal, and a line feed
abbrev pub ended_text : ℕ → List ℕ
ended_text len = decimal len ++ 10 ∷ []
