-- What a group's list is: there is a group's list or a split, and a correct member has the list.
use Rattle.std.specs.Prelude.{◌≡◌, ◌⊎◌, ℕ, ◌≤◌, ◌<◌, Bool, true, not, List, length, map, slice_get}
use Rattle.std.specs.Prelude.{Some, Contains}
use Rattle.std.specs.List.{count_by}
use Rattle.pay_channel.specs.Prefix.{IsPrefix}
use Rattle.pay_group.specs.Backing.{IsBacked, IsGroupList, IsSplit}

-- more than f lists have a list of the group or a split
abbrev pub ListOrSplit : Type 0
ListOrSplit =
    (f : ℕ) (lists : List (List (List ℕ))) → f < length lists
    → ((l : List (List ℕ)) × IsGroupList f lists l) ⊎ ((place : ℕ) × IsSplit f lists place)

-- lists never have two group's lists, nor both a group's list and a split
abbrev pub OneGroupList : Type 0
OneGroupList =
    (f : ℕ) (lists : List (List (List ℕ))) (l m : List (List ℕ))
    → IsGroupList f lists l → IsGroupList f lists m → l ≡ m

abbrev pub NoListOfASplit : Type 0
NoListOfASplit =
    (f : ℕ) (lists : List (List (List ℕ))) (l : List (List ℕ)) (place : ℕ)
    → IsGroupList f lists l → IsSplit f lists place → ⊥

-- Lists of members, at most f of them not correct: what is backed is a prefix of the list of a
-- correct member.
abbrev pub BackedIsVouchedFor : Type 0
BackedIsVouchedFor =
    (f : ℕ) (members : List (Bool × List (List ℕ))) (l : List (List ℕ))
    → count_by (λ m. not m.0) members ≤ f → IsBacked f (map (λ m. m.1) members) l
    → (m : Bool × List (List ℕ)) × Contains members m × (m.0 ≡ true) × IsPrefix l m.1

-- what is backed is a prefix of one of the lists
abbrev pub BackedIsListed : Type 0
BackedIsListed =
    (f : ℕ) (lists : List (List (List ℕ))) (l : List (List ℕ)) → IsBacked f lists l
    → (k : ℕ) × (list : List (List ℕ)) × (slice_get lists k ≡ Some list) × IsPrefix l list
