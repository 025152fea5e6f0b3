-- What a sliding buffer holds of a stream: the bytes that were consumed last and those after them.
use Rattle.std.specs.Prelude.{◌≡◌, ℕ, List, [], ◌++◌, length, Option}
use Rattle.std.specs.Io.KnownBytes.{Consumes, IsAtEnd}

pub record Sliding : Type 0 where
  pub consumed : List ℕ
  pub bytes : List ℕ
  -- the most bytes that it holds
  pub room : ℕ

abbrev pub nothing_in : ℕ → Sliding
nothing_in room = record { consumed = []; bytes = []; room = room }

-- A read took `count` bytes of the input and appended them. The count is 0 only at the input's end.
pub record ReadsMore (old new : List ℕ) (left rest : Option (List ℕ)) (count : ℕ) : Type 0 where
  pub piece : List ℕ
  pub sized : length piece ≡ count
  pub taken : Consumes left rest piece
  pub appended : new ≡ old ++ piece
  pub end : count ≡ 0 → IsAtEnd rest
