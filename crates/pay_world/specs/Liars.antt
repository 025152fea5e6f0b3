-- The faulty members of a group, and the first fault of what claims to be a list of them.
use Rattle.std.specs.Prelude.{◌≡◌, ◌≢◌, ℕ, ◌<◌, ◌≤◌, ◌==◌, ◌||◌, nat_lt, Bool, false, List, [], ◌∷◌}
use Rattle.std.specs.Prelude.{All, AllPairs, length, Option, Some, None, if◌then◌else◌}
use Rattle.std.specs.List.{list_all, list_any}
use Rattle.pay_link.specs.Genesis.{GenesisFields}
use Rattle.pay_world.specs.Setting.{Setting}
use Rattle.pay_world.specs.declared.liars.LiarFault.{LiarFault}
use Rattle.pay_world.specs.declared.liars.LiarFault.TheVariants.{Unknown, Twice, TooMany}

-- how many members there are, how many of them may be faulty, and which are
pub record LiarFields : Type 0 where
  pub members : ℕ
  pub faults : ℕ
  pub liars : List ℕ

-- all of them are members
abbrev pub AreMembers : LiarFields → Type 0
AreMembers l = All (λ i. i < l.members) l.liars

-- none of them is named twice
abbrev pub LiarsAreDistinct : LiarFields → Type 0
LiarsAreDistinct l = AllPairs (λ i j. i ≢ j) l.liars

-- members, each named once, and no more than may be faulty
pub record AreLiars (l : LiarFields) : Type 0 where
  pub known : AreMembers l
  pub once : LiarsAreDistinct l
  pub few : length l.liars ≤ l.faults

-- the faulty members of the group of this genesis
pub record AreLiarsOf (g : GenesisFields) (l : LiarFields) : Type 0 where
  pub members : l.members ≡ g.members
  pub faults : l.faults ≡ g.faults

-- these faulty members of the group of this genesis
abbrev pub liars_in : GenesisFields → List ℕ → LiarFields
liars_in g liars = record { members = g.members; faults = g.faults; liars = liars }

-- whether a member is in a list
abbrev pub is_listed : List ℕ → ℕ → Bool
is_listed liars i = list_any (λ x. x == i) liars

-- whether a number stands again later in the list
abbrev pub has_twice : List ℕ → Bool
has_twice [] = false
has_twice (x ∷ xs) = is_listed xs x || has_twice xs

-- the group with these faulty members
abbrev pub setting_of : LiarFields → Setting
setting_of l = record { members = l.members; faults = l.faults; faulty = is_listed l.liars }

-- the first fault that holds of the whole list, if there is one
abbrev pub liar_fault : LiarFields → Option LiarFault
liar_fault l =
    if list_all (λ i. nat_lt i l.members) l.liars
    then (if has_twice l.liars then Some Twice
    else if nat_lt l.faults (length l.liars) then Some TooMany
    else None)
    else Some Unknown
