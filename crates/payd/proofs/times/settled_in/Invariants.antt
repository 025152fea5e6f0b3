use Rattle.std.proofs.Common.{◌≡◌, min, take}
use Rattle.std.specs.List.{sum}
use Rattle.payd.proofs.times.settled_in.Given as goal

-- the sum of those so far
abbrev pub invariant-loop-front : goal.invariant-loop-front
invariant-loop-front l =
    l.settled ≡ min (sum (take l.front-index l.fronts)) 18446744073709551615
