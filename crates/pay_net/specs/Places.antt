-- How many inbound connections may be open at once, according to how many descriptors the system
-- allows a node.
use Rattle.std.specs.Prelude.{ℕ, ◌+◌, ◌-◌, ◌*◌, ◌/◌, min, nat_lt, Option, Some, None}
use Rattle.std.specs.Prelude.{if◌then◌else◌}

-- The most descriptors that a node of `members` members has open with `places` inbound connections.
-- Each of these and of its desk's 16 clients needs two, and each member that it connects to needs
-- three. 32 others are its standard streams, its log, its listening sockets, the files that it
-- writes, and connections without a place.
abbrev pub descriptors_of : ℕ → ℕ → ℕ
descriptors_of members places = 32 + 2 * 16 + 3 * members + 2 * places

-- each peer has its current connection and one more, if there are this many places
abbrev pub least_places : ℕ → ℕ
least_places members = 2 * members

-- at most 256 places, and none if the system allows too few descriptors
abbrev pub places_within : ℕ → ℕ → Option ℕ
places_within limit members =
    if nat_lt limit (descriptors_of members (least_places members)) then None
    else Some (min 256 ((limit - descriptors_of members 0) / 2))
