use Rattle.std.proofs.Common.{take}
use Rattle.pay_net.proofs.Starts.{AreKeptSoFar}
use Rattle.pay_net.proofs.start.kept_of.Given as goal

abbrev pub invariant-loop-entry : goal.invariant-loop-entry
invariant-loop-entry l = AreKeptSoFar (take l.entry-index l.history) l.ids l.kept
