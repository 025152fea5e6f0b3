-- Which frames of a peer are in flight on a connection.
use Rattle.std.specs.Prelude.{ℕ, ◌+◌, ◌-◌, ◌^◌, ◌<◌, ◌≤◌, zero, suc, nat_le, nat_lt, min, max}
use Rattle.std.specs.Prelude.{if◌then◌else◌, List, [], ◌∷◌, Option, Some, None}
use Rattle.pay_peers.specs.declared.window.Window.{Window}

-- `count` frames may be in flight
abbrev pub CanAskAhead : ℕ → Type 0
CanAskAhead count = (0 < count) × (count ≤ 1024)

-- before any connection: nothing was requested
abbrev pub empty_window : Window
empty_window = record { due = 0; asked = 0 }

-- on a new connection: the frames from the next one on were requested, four or as many as the
-- pipelining depth
abbrev pub first_count : ℕ → ℕ
first_count ahead = min ahead 4

-- page: `first_window`, `moved_window`: which frames of a peer are in flight, on a new connection
--   and after an answer
abbrev pub first_window : ℕ → ℕ → Window
first_window ahead from = record { due = from; asked = from + first_count ahead }

-- The expected number after the expected frame came, if the peer's next frame is this one. It is
-- what was requested after that frame or, if that was the last one, the first missing number.
abbrev pub due_behind : Window → ℕ → ℕ
due_behind w next = if nat_lt (w.due + 1) w.asked then w.due + 1 else max w.asked next

-- The number from which further frames are requested, and how many: at most two, up to the
-- pipelining depth. There are none if a frame beyond all requests is there already: frames in
-- flight come first.
abbrev pub from_behind : Window → ℕ → ℕ
from_behind w next = max w.asked (due_behind w next)

abbrev pub count_behind : ℕ → Window → ℕ → ℕ
count_behind ahead w next =
    if nat_le next (from_behind w next)
    then min (min (ahead - (from_behind w next - due_behind w next)) 2)
    (2 ^ 64 - 1 - from_behind w next)
    else 0

abbrev pub moved_window : ℕ → Window → ℕ → Window
moved_window ahead w next =
    record { due = due_behind w next; asked = from_behind w next + count_behind ahead w next }

-- consecutive numbers, `count` of them
abbrev pub row_of : ℕ → ℕ → List ℕ
row_of from zero = []
row_of from (suc count) = from ∷ row_of (from + 1) count

-- the window after an answer, and the numbers that are requested with it: an answer without a next
-- frame moves nothing
abbrev pub window_behind : ℕ → Window → Option ℕ → Window
window_behind ahead w None = w
window_behind ahead w (Some next) = moved_window ahead w next

abbrev pub asked_behind : ℕ → Window → Option ℕ → List ℕ
asked_behind ahead w None = []
asked_behind ahead w (Some next) = row_of (from_behind w next) (count_behind ahead w next)
