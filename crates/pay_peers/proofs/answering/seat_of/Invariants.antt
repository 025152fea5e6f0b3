use Rattle.std.proofs.Common.{◌≢◌, take}
use Rattle.std.specs.List.{All}
use Rattle.pay_peers.proofs.answering.seat_of.Given as goal

abbrev pub invariant-loop-seated : goal.invariant-loop-seated
invariant-loop-seated l = All (λ s. s.0 ≢ l.peer) (take l.seated-index l.seats)
