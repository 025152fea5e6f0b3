-- Which group a file of keys names, and which group a genesis's file belongs to.
use Rattle.std.specs.Prelude.{◌≢◌, ℕ, zero, suc, ◌+◌, ◌*◌, ◌/◌, ◌%◌, List, [], ◌∷◌, ◌++◌, codes}
use Rattle.std.specs.Prelude.{decimal, take, slice_index, Option, Some, None}
use Rattle.std.specs.Int.{from_be_bytes, w64}
use Rattle.std.specs.Prelude.{option_and_then, option_map, ⊤}
use Rattle.std.specs.List.{flat_map}
use Rattle.std.specs.Option.{option_map_or}
use Rattle.hex.specs.Hex.{encode_lower}
use Rattle.sha2.specs.Sha256.{sha256}
use Rattle.sha2.specs.Sha512.{sha512}
use Rattle.pay_link.specs.Genesis.{GenesisFields}
use Rattle.pay_link.specs.Json.{Data, number_at, texts_at, value_in}
use Rattle.serde_json.specs.Find.{as_str, get}

-- the text that an object has at this name
abbrev pub text_named : List ℕ → Data → Option (List ℕ)
text_named name d = option_and_then as_str (get name d)

-- ---- the lines that the keys of a group depend on

abbrev pub group_line : List ℕ → List ℕ → List ℕ
group_line word text = word ++ codes " " ++ text ++ codes "\n"

abbrev pub group_lines : List ℕ → List (List ℕ) → List ℕ
group_lines word texts = flat_map (group_line word) texts

abbrev pub count_words : ℕ → List ℕ
count_words number = codes " " ++ decimal number

abbrev pub genesis_lines : GenesisFields → List ℕ
genesis_lines g =
    codes "payd group 1\nmembers" ++ count_words g.members ++ codes "\nfaults"
    ++ count_words g.faults
    ++ codes "\nopening" ++ flat_map count_words g.opening ++ codes "\n"

abbrev pub names_lines : Data → List ℕ
names_lines d = option_map_or (group_lines (codes "name")) (texts_at (codes "names") d) []

abbrev pub former_line : Data → List ℕ
former_line d = option_map_or (group_line (codes "former")) (text_named (codes "former") d) []

-- all that a group's file says except ports and hosts, with its genesis; nothing if it is no
-- group's file
abbrev pub group_text : GenesisFields → Data → Option (List ℕ)
group_text g d =
    option_and_then (λ group. option_map (λ public.
    genesis_lines g ++ group_line (codes "group") group ++ group_lines (codes "public") public
    ++ names_lines d ++ former_line d)
    (texts_at (codes "public") d)) (text_named (codes "group") d)

-- ---- the names of members and groups

-- a member's number, and then its name if it has one
abbrev pub called_words : ℕ → Option (List ℕ) → List ℕ
called_words number None = decimal number
called_words number (Some name) = decimal number ++ codes " " ++ name

-- the line that a group's unit adds to those that its fingerprint depends on
abbrev pub unit_line : Data → List ℕ
unit_line d =
    option_map_or (λ unit. option_map_or (λ decimals. codes "unit " ++ unit ++ count_words decimals
    ++ codes "\n") (number_at (codes "decimals") d) []) (text_named (codes "unit") d) []

-- the last five decimal digits of a number
abbrev pub five_digits : ℕ → List ℕ
five_digits n =
    (48 + n / 10000 % 10) ∷ (48 + n / 1000 % 10) ∷ (48 + n / 100 % 10) ∷ (48 + n / 10 % 10)
    ∷ (48 + n % 10) ∷ []

-- five bytes of a digest as a number, its digits, and a blank before them
abbrev pub fifth_words : List ℕ → ℕ → List ℕ
fifth_words digest at =
    32 ∷ five_digits (from_be_bytes w64 (0 ∷ 0 ∷ 0 ∷ slice_index digest (5 * at)
    ∷ slice_index digest (5 * at + 1) ∷ slice_index digest (5 * at + 2)
    ∷ slice_index digest (5 * at + 3) ∷ slice_index digest (5 * at + 4) ∷ []))

-- this count of groups of digits
abbrev pub fifths_words : List ℕ → ℕ → List ℕ
fifths_words digest zero = []
fifths_words digest (suc count) = fifths_words digest count ++ fifth_words digest count

-- the fingerprint that people compare: twelve groups of digits
abbrev pub fingerprint_of : GenesisFields → Data → Option (List ℕ)
fingerprint_of g d =
    option_map (λ text. fifths_words (sha512 (text ++ unit_line d)) 12) (group_text g d)

-- ---- the digest

-- the first sixteen digits of a text's digest
abbrev pub first_digits : List ℕ → List ℕ
first_digits text = encode_lower (take 8 (sha256 text))

-- the digits of the group with these bytes of its file, and this genesis
abbrev pub digits_of : GenesisFields → List ℕ → Option (List ℕ)
digits_of g bytes = option_map first_digits (option_and_then (group_text g) (value_in bytes))

-- the digits that a file of keys names
abbrev pub digits_named : List ℕ → Option (List ℕ)
digits_named bytes = option_and_then (text_named (codes "digest")) (value_in bytes)

-- Keys that name these digits belong to another group, if the group has other digits or no digits.
-- Keys without digits belong to any group.
abbrev pub IsOther : Option (List ℕ) → Option (List ℕ) → Type 0
IsOther None digits = ⊥
IsOther (Some named) None = ⊤
IsOther (Some named) (Some digits) = named ≢ digits
