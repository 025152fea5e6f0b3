use Rattle.std.proofs.Common.{◌≡◌, ◌++◌}
use Rattle.pay_peers.specs.Ahead.{wants}
use Rattle.pay_peers.specs.Window.{row_of}
use Rattle.pay_peers.proofs.reading_ahead.ask_for.Given as goal

abbrev pub invariant-loop-place : goal.invariant-loop-place
invariant-loop-place g l = l.out.items ≡ l.initial.out.items ++ wants l.keys l.peer (row_of l.asks.from l.place)
