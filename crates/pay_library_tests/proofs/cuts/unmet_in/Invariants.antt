use Rattle.std.proofs.Common.{◌≡◌, None}
use Rattle.pay_library_tests.proofs.cuts.unmet_in.Given as goal

-- the cutter met no fault
abbrev pub invariant-loop-place : goal.invariant-loop-place
invariant-loop-place l = l.cutter.met ≡ None
