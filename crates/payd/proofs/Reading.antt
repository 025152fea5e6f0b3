-- What is left of a source, up to a limit.
use Rattle.std.proofs.Common.{◌≡◌, ℕ, List, take}
use Rattle.std.specs.Prelude.{Option, Some, None, IfSome}
use Rattle.std.specs.Option.{option_map}

pub within : (n : ℕ) (left : Option (List ℕ)) (bytes : List ℕ) → IfSome (option_map (take n) left) (λ xs. bytes ≡ xs) → IfSome left (λ xs. bytes ≡ take n xs)
within n None bytes h = tt
within n (Some xs) bytes h = h
