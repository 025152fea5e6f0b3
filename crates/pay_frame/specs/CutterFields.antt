-- What a cutter's fields hold.
use Rattle.std.specs.Prelude.{◌≡◌}
use Rattle.pay_frame.specs.declared.limits.TheConstants.{CUTTER_ROOM}
use Rattle.pay_frame.specs.declared.cutter.Cutter.TheInside.{Inside}
use Rattle.pay_frame.specs.Cutting.{Held}

abbrev pub held_in : Inside → Held
held_in c = record { given = c.stream.consumed; bytes = c.stream.bytes; met = c.met }

abbrev pub HasCutterRoom : Inside → Type 0
HasCutterRoom c = c.stream.room ≡ CUTTER_ROOM
