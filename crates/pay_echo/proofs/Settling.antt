-- What follows where a vote stands in its place already: READY and the delivery, by the counts as they are.
use Rattle.std.proofs.Common.{ℕ, ◌+◌, ◌*◌, Bool, ◌&&◌, ◌||◌, nat_lt, if◌then◌else◌, List, slice_set, Some, is_none, count_by}
use Rattle.pay_echo.specs.Broadcast.{is_for}
use Rattle.pay_echo.specs.Meaning.{Meaning}

unfoldable pub may_ready_at : Meaning → List ℕ → Bool
may_ready_at m v =
    is_none m.readied
    && (nat_lt (m.group.members + m.group.faults) (2 * count_by (is_for v) m.echoes)
    || nat_lt m.group.faults (count_by (is_for v) m.readys))

unfoldable pub may_deliver_at : Meaning → List ℕ → Bool
may_deliver_at m v = is_none m.delivered && nat_lt (2 * m.group.faults) (count_by (is_for v) m.readys)

unfoldable pub now_ready : Meaning → List ℕ → Meaning
now_ready m v =
    if may_ready_at m v then record m { readied = Some v; readys = slice_set m.readys m.group.own (Some v) } else m

unfoldable pub now_delivered : Meaning → List ℕ → Meaning
now_delivered m v = if may_deliver_at m v then record m { delivered = Some v } else m

-- all that follows where the counts of this value have grown
unfoldable pub settled : Meaning → List ℕ → Meaning
settled m v = now_delivered (now_ready m v) v

abbrev pub with_send : Meaning → List ℕ → Meaning
with_send m v = record m { echoed = Some v; echoes = slice_set m.echoes m.group.own (Some v) }

abbrev pub with_echo : Meaning → ℕ → List ℕ → Meaning
with_echo m p v = record m { echoes = slice_set m.echoes p (Some v) }

abbrev pub with_ready : Meaning → ℕ → List ℕ → Meaning
with_ready m p v = record m { readys = slice_set m.readys p (Some v) }
