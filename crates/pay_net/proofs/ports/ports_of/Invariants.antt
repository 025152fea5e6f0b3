use Rattle.std.proofs.Common.{◌≡◌, take}
use Rattle.std.specs.List.{AllWithin}
use Rattle.pay_net.specs.Ports.{IsPort}
use Rattle.pay_net.proofs.ports.ports_of.Given as goal

-- the ports so far are the numbers so far, all of which are ports
abbrev pub invariant-loop-number : goal.invariant-loop-number
invariant-loop-number l =
    (l.ports.items ≡ take l.number-index l.numbers) × AllWithin IsPort l.numbers 0 l.number-index
