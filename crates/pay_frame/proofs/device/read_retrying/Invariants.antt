use Rattle.std.specs.Io.KnownBytes.{Keeps}
use Rattle.pay_frame.proofs.device.read_retrying.Given as goal

-- the reads that were interrupted took nothing
abbrev pub invariant-loop : goal.invariant-loop
invariant-loop g l = Keeps (g.R.Read.remaining l.fn.reader) (g.R.Read.remaining l.reader)
