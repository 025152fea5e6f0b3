-- Votes as places in a list of values.
use Rattle.std.specs.Prelude.{◌≡◌, ◌≢◌, ℕ, ◌<◌, ◌≤◌, Bool, false, ◌==◌, List, length, map}
use Rattle.std.specs.Prelude.{slice_get, Option, Some, None, All}
use Rattle.pay_frame.specs.declared.limits.TheConstants.{MOST_MEMBERS}
use Rattle.pay_echo.specs.Broadcast.{Group}
use Rattle.pay_echo.specs.Meaning.{Meaning}
use Rattle.pay_echo.specs.Step.{vote_at}

-- the value at a place, if there is one
abbrev pub value_at : List (List ℕ) → Option ℕ → Option (List ℕ)
value_at values None = None
value_at values (Some k) = slice_get values k

abbrev pub votes_at_places : List (List ℕ) → List (Option ℕ) → List (Option (List ℕ))
votes_at_places values places = map (value_at values) places

-- whether a vote stands at this place
abbrev pub is_at : ℕ → Option ℕ → Bool
is_at k None = false
is_at k (Some j) = j == k

-- no value stands at two places
abbrev pub AreDistinct : List (List ℕ) → Type 0
AreDistinct values =
    (j k : ℕ) (v : List ℕ) → slice_get values j ≡ Some v → slice_get values k ≡ Some v → j ≡ k

-- the place of a value, if it stands anywhere
abbrev pub IsPlaceOf : List ℕ → List (List ℕ) → Option ℕ → Type 0
IsPlaceOf v values None = (k : ℕ) → slice_get values k ≢ Some v
IsPlaceOf v values (Some k) = slice_get values k ≡ Some v

-- the place is below n
abbrev pub IsPlace : ℕ → Option ℕ → Type 0
IsPlace n None = Unit {0}
IsPlace n (Some k) = k < n

abbrev pub meaning_by :
    Group → List (List ℕ) → List (Option ℕ) → List (Option ℕ) → Option ℕ → Meaning
meaning_by g values echoes readys delivered =
    record {
      group = g;
      echoed = vote_at (votes_at_places values echoes) g.own;
      echoes = votes_at_places values echoes;
      readied = vote_at (votes_at_places values readys) g.own;
      readys = votes_at_places values readys;
      delivered = value_at values delivered;
    }

-- There are few members, the process's own number is one of theirs, and no value is kept twice.
-- Each member has its places, and each place is one of the values.
pub record AreVotePlaces (g : Group) (values : List (List ℕ)) (echoes readys : List (Option ℕ))
    (delivered : Option ℕ) : Type 0 where
  pub few : g.members ≤ MOST_MEMBERS
  pub own : g.own < g.members
  pub distinct : AreDistinct values
  pub echoed : length echoes ≡ g.members
  pub readied : length readys ≡ g.members
  pub echo_places : All (IsPlace (length values)) echoes
  pub ready_places : All (IsPlace (length values)) readys
  pub delivered_place : IsPlace (length values) delivered
