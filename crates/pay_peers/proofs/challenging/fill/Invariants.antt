use Rattle.std.proofs.Common.{◌≡◌, ◌<◌, length}
use Rattle.std.specs.Io.KnownBytes.{Consumes}
use Rattle.pay_link.specs.declared.limits.TheConstants.{WANT_LEN}
use Rattle.pay_peers.proofs.challenging.fill.Given as goal

-- what was read is held, and there is room for more
abbrev pub invariant-loop : goal.invariant-loop
invariant-loop g l =
    record {
      taken : Consumes (g.In.Input.remaining l.fn.reader) (g.In.Input.remaining l.reader) l.held.bytes;
      room : l.held.room ≡ WANT_LEN;
      few : length l.held.bytes < WANT_LEN;
    }
