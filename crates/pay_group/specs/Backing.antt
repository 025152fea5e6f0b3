-- What several members' lists of one account have in common. If at most f of the members are
-- faulty, a list that more than f lists begin with is one that a correct member has. This follows
-- Malkhi, Reiter, Byzantine Quorum Systems, 1998, section 4: a value for which f + 1 servers vouch.
use Rattle.std.specs.Prelude.{◌≡◌, ◌≢◌, ℕ, ◌≤◌, ◌<◌, List, [], ◌∷◌, ◌++◌, Bool, true, false, ◌&&◌}
use Rattle.std.specs.Prelude.{length, slice_get}
use Rattle.std.specs.Option.{option_map_or}
use Rattle.std.specs.List.{count_by}
use Rattle.std.specs.Str.{bytes_eq}
use Rattle.pay_channel.specs.Prefix.{IsPrefix}

-- a list begins with l
abbrev pub begins : List (List ℕ) → List (List ℕ) → Bool
begins [] list = true
begins (v ∷ l) [] = false
begins (v ∷ l) (w ∷ list) = bytes_eq v w && begins l list

-- how many of the lists begin with l
abbrev pub backers : List (List (List ℕ)) → List (List ℕ) → ℕ
backers lists l = count_by (begins l) lists

-- more than f of the lists begin with l
abbrev pub IsBacked : ℕ → List (List (List ℕ)) → List (List ℕ) → Type 0
IsBacked f lists l = f < backers lists l

-- The group's list is backed, and begins with each backed list.
pub record IsGroupList (f : ℕ) (lists : List (List (List ℕ))) (l : List (List ℕ)) : Type 0 where
  pub backed : IsBacked f lists l
  pub longest : (m : List (List ℕ)) → IsBacked f lists m → IsPrefix m l

-- Two values are backed at one place, after one prefix: more than f of the members are faulty. Up
-- to there one list is backed.
pub record IsSplit (f : ℕ) (lists : List (List (List ℕ))) (place : ℕ) : Type 0 where
  pub before : List (List ℕ)
  pub at : length before ≡ place
  pub one : List ℕ
  pub other : List ℕ
  pub differ : one ≢ other
  pub one_backed : IsBacked f lists (before ++ one ∷ [])
  pub other_backed : IsBacked f lists (before ++ other ∷ [])
  pub first : (m : List (List ℕ)) → IsBacked f lists m → length m ≤ place → IsPrefix m before

-- whether a list has this value at a place
abbrev pub has_at : ℕ → List ℕ → List (List ℕ) → Bool
has_at place v list = option_map_or (λ w. bytes_eq v w) (slice_get list place) false
