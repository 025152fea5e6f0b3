-- A member's keys: one for each other member, which that member has too.
use Rattle.std.specs.Prelude.{◌≡◌, ◌≢◌, ℕ, ◌<◌, ◌≤◌, ◌==◌, nat_le, nat_lt, Bool, not, ◌&&◌, List}
use Rattle.std.specs.Prelude.{length, replicate, slice_index_or, slice_set, Option, Some, None}
use Rattle.std.specs.Prelude.{if◌then◌else◌}
use Rattle.pay_link.specs.Genesis.{GenesisFields}
use Rattle.pay_frame.specs.declared.limits.TheConstants.{MOST_MEMBERS}
use Rattle.pay_link.specs.declared.keys.KeysFault.{KeysFault}
use Rattle.pay_link.specs.declared.keys.KeysFault.TheVariants.{BadKeyCount, BadOwn}

-- the member that the keys belong to, and the key for each member at its place
pub record KeyFields : Type 0 where
  pub own : ℕ
  pub keys : List (List ℕ)

-- what stands at the member's own place, which has no key
abbrev pub no_key : List ℕ
no_key = replicate 32 0

-- the limits of a member's keys
-- page: `IsKeys`, `key_for`: a member and its keys, one for each pair as in the book
pub record IsKeys (k : KeyFields) : Type 0 where
  pub own : k.own < length k.keys
  pub few : length k.keys ≤ MOST_MEMBERS

-- the keys belong to a member of this genesis
abbrev pub IsKeysOf : GenesisFields → KeyFields → Type 0
IsKeysOf g k = length k.keys ≡ g.members

-- another member
abbrev pub IsPeer : KeyFields → ℕ → Type 0
IsPeer k p = (p < length k.keys) × (p ≢ k.own)

-- the test of whether this is another member
abbrev pub is_peer : KeyFields → ℕ → Bool
is_peer k p = nat_lt p (length k.keys) && not (p == k.own)

-- the key that is shared with a peer
abbrev pub key_for : KeyFields → ℕ → List ℕ
key_for k p = slice_index_or k.keys p no_key

-- the first fault of `count` keys of a member, in a genesis of `members` members, if there is one
abbrev pub place_fault : ℕ → ℕ → ℕ → Option KeysFault
place_fault members own count =
    if nat_le members own then Some BadOwn
    else if count == members then None
    else Some BadKeyCount

-- the first fault that holds of keys for a genesis of `members` members, if there is one
abbrev pub keys_fault : ℕ → KeyFields → Option KeysFault
keys_fault members k = place_fault members k.own (length k.keys)

-- the keys without the one at the member's own place
abbrev pub kept_keys : KeyFields → KeyFields
kept_keys k = record { own = k.own; keys = slice_set k.keys k.own no_key }
