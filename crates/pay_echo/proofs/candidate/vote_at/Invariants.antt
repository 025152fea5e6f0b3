use Rattle.pay_echo.proofs.Candidates.{IsOut}
use Rattle.pay_echo.proofs.candidate.vote_at.Given as goal

abbrev pub invariant-loop-candidate : goal.invariant-loop-candidate
invariant-loop-candidate l = IsOut l.candidates l.process l.kind l.candidate-index
