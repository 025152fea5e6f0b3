-- What files of JSON say about a ledger: a genesis, and one member's keys. The definitions are
-- about the value that bytes are read as. RFC 8259 says which bytes have one.
use Rattle.std.specs.Prelude.{ℕ, ◌≡◌, ◌+◌, ◌<◌, ◌==◌, List, [], ◌∷◌, IsSome, codes, length}
use Rattle.std.specs.Prelude.{slice_index_or, Option, Some, None, ok_or, option_and_then}
use Rattle.std.specs.Prelude.{option_map, Result, Ok, Err, if◌then◌else◌}
use Rattle.std.specs.Option.{option_map_or}
use Rattle.pay_link.specs.Json.{Data, number_at, numbers_at, texts_at, value_in}
use Rattle.pay_link.specs.Hexadecimal.{key_in}
use Rattle.pay_link.specs.Genesis.{GenesisFields, genesis_fault}
use Rattle.pay_link.specs.Keys.{KeyFields, key_for, no_key, place_fault}
use Rattle.pay_link.specs.declared.genesis.GenesisFault.{GenesisFault}
use Rattle.pay_link.specs.declared.genesis.GenesisFault.TheVariants as genesis
use Rattle.pay_link.specs.declared.keys.KeysFault.{KeysFault}
use Rattle.pay_link.specs.declared.keys.KeysFault.TheVariants as keys

-- a step that is made if the steps before it found no fault
infixl 10 ◌>>=◌
abbrev pub ◌>>=◌ : {A B E : Type 0} → Result A E → (A → Result B E) → Result B E
Ok x >>= f = f x
Err e >>= f = Err e

-- the genesis that an object contains, whatever its limits
abbrev pub genesis_said : Data → Option GenesisFields
genesis_said d =
    option_and_then (λ members. option_and_then (λ faults. option_map (λ opening.
    record { members = members; faults = faults; opening = opening })
    (numbers_at (codes "opening") d)) (number_at (codes "faults") d))
    (number_at (codes "members") d)

-- the genesis of a file, or the first of its faults
abbrev pub genesis_in : List ℕ → Result GenesisFields GenesisFault
genesis_in bytes = do
  d ← ok_or (value_in bytes) genesis.BadJson
  said ← ok_or (genesis_said d) genesis.BadShape
  option_map_or Err (genesis_fault said) (Ok said)

-- the member that the keys of a file are for, and a text for each member
pub record KeysSaid : Type 0 where
  pub own : ℕ
  pub texts : List (List ℕ)

-- the texts that an object contains, whatever they encode
abbrev pub keys_said : Data → Option KeysSaid
keys_said d =
    option_and_then (λ own. option_map (λ texts. record { own = own; texts = texts })
    (texts_at (codes "keys") d)) (number_at (codes "own") d)

-- what the text at a place encodes: the key for another member, and nothing at the member's own
-- place, which has no key
abbrev pub key_at : ℕ → ℕ → List ℕ → Option (List ℕ)
key_at own place text =
    if place == own then (if length text == 0 then Some no_key else None) else key_in text

-- the keys of the texts from a place on, or the first place with a text that encodes no key
abbrev pub keys_from : ℕ → ℕ → List (List ℕ) → Result (List (List ℕ)) KeysFault
keys_from own place [] = Ok []
keys_from own place (text ∷ texts) = do
  key ← ok_or (key_at own place text) (keys.BadKey place)
  others ← keys_from own (place + 1) texts
  Ok (key ∷ others)

-- the keys that all the texts encode, or the first place with a text that encodes none
abbrev pub keys_of_texts : KeysSaid → Result KeyFields KeysFault
keys_of_texts said = do
  kept ← keys_from said.own 0 said.texts
  Ok (record { own = said.own; keys = kept })

-- the keys that these texts encode for one of `members` members, or the first of their faults
abbrev pub keys_judged : ℕ → KeysSaid → Result KeyFields KeysFault
keys_judged members said =
    option_map_or Err (place_fault members said.own (length said.texts)) (keys_of_texts said)

-- the text at a place
abbrev pub text_at : KeysSaid → ℕ → List ℕ
text_at said place = slice_index_or said.texts place []

-- the least place with a text that encodes no key, or at the member's own place isn't empty
pub record IsLeastBad (said : KeysSaid) (place : ℕ) : Type 0 where
  pub within : place < length said.texts
  pub bad : key_at said.own place (text_at said place) ≡ None
  pub least : (p : ℕ) → p < place → IsSome (key_at said.own p (text_at said p))

-- the keys that the texts encode, each at its place
pub record SaysKeys (said : KeysSaid) (k : KeyFields) : Type 0 where
  pub own : k.own ≡ said.own
  pub count : length k.keys ≡ length said.texts
  pub each :
      (p : ℕ) → p < length said.texts → key_at said.own p (text_at said p) ≡ Some (key_for k p)

-- the keys of a file for a genesis of `members` members, or the first of its faults
abbrev pub keys_in_file : ℕ → List ℕ → Result KeyFields KeysFault
keys_in_file members bytes = do
  d ← ok_or (value_in bytes) keys.BadJson
  said ← ok_or (keys_said d) keys.BadShape
  keys_judged members said
