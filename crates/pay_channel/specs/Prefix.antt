-- Prefixes of lists.
use Rattle.std.specs.Prelude.{◌≡◌, List, ◌++◌}

-- ys begins with xs
pub record IsPrefix {X : Type 0} (xs ys : List X) : Type 0 where
  pub rest : List X
  pub is : ys ≡ xs ++ rest
