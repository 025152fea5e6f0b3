-- The place of a front in an owner's list of values.
use Rattle.std.specs.Prelude.{◌≡◌, ℕ, suc, ◌+◌, ◌-◌, ◌<◌, List, [], ◌∷◌, length, map}
use Rattle.std.specs.Prelude.{slice_index_or, nat_lt, nat_le, if◌then◌else◌}
use Rattle.std.specs.List.{range_with_len}
use Rattle.pay_book.specs.Payment.{count_in}

-- A place: a count of whole values, and a count of entries of the next value.
abbrev pub Place : Type 0
Place = ℕ × ℕ

abbrev pub one_value_further : Place → Place
one_value_further place = (suc place.0, place.1)

-- The place after this many entries. `count` says how many entries a value has.
unfoldable pub place_in : {X : Type 0} → (X → ℕ) → List X → ℕ → Place
place_in count [] number = (0, number)
place_in count (x ∷ xs) number =
    if nat_le (count x) number
    then one_value_further (place_in count xs (number - count x))
    else (0, number)

-- one entry further, if the next value has `count` entries
abbrev pub place_after : ℕ → Place → Place
place_after count place =
    if nat_lt (place.1 + 1) count then (place.0, place.1 + 1) else (place.0 + 1, 0)

-- an account's place
abbrev pub place_of : List Place → ℕ → Place
place_of places a = slice_index_or places a (0, 0)

-- A list of places has the place of each account's front.
pub record ArePlaces (accounts : ℕ) (lists : ℕ → List (List ℕ)) (front : ℕ → ℕ)
    (places : List Place) : Type 0 where
  pub one_for_each : length places ≡ accounts
  pub exact :
      (a : ℕ) → a < accounts → place_of places a ≡ place_in count_in (lists a) (front a)

-- the list of places of a front
unfoldable pub places_of : ℕ → (ℕ → List (List ℕ)) → (ℕ → ℕ) → List Place
places_of accounts lists front =
    map (λ a. place_in count_in (lists a) (front a)) (range_with_len 0 accounts)
