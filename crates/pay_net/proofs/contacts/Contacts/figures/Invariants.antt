use Rattle.std.proofs.Common.{◌≡◌, map}
use Rattle.pay_net.specs.Running.{others_below}
use Rattle.pay_net.proofs.contacts.Contacts.figures.Given as goal

-- each other peer so far is there
abbrev pub invariant-loop-peer : goal.invariant-loop-peer
invariant-loop-peer g l = map (λ p. p.peer) l.figures.items ≡ others_below l.own l.peer
