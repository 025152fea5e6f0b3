use Rattle.std.proofs.Common.{◌<◌, ℕ, Some, slice_get}
use Rattle.std.specs.Prelude.{◌≢◌}
use Rattle.pay_echo.specs.Masks.{values_of}
use Rattle.pay_echo.proofs.candidate.place_of.Given as goal

-- it stands at no place before this one
abbrev pub invariant-loop-place : goal.invariant-loop-place
invariant-loop-place l = (k : ℕ) → k < l.place → slice_get (values_of l.candidates) k ≢ Some l.value
