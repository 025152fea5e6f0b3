-- What a file of JSON (RFC 8259) says: the value of its text, and the parts of an object that have
-- one shape. A member of another name doesn't matter, and of several members of one name the last
-- counts.
use Rattle.std.specs.Prelude.{ℕ, List, [], ◌∷◌, Option, Some, None, option_and_then, option_map}
use Rattle.std.specs.Prelude.{if◌then◌else◌}
use Rattle.std.specs.Str.{is_utf8}
pub use Rattle.serde_json.specs.Data.{Data}
use Rattle.serde_json.specs.Data.{Items, item, no_items}
use Rattle.serde_json.specs.Find.{as_array, as_number, as_str, as_u64, get}
use Rattle.serde_json.specs.Read.{read}

-- the value of bytes that are UTF-8 and a text of JSON
-- page: `value_in`, `key_in`: the value of bytes that are UTF-8 and JSON, according to the grammar
--   of `serde_json` and within that crate's limits; the 32 bytes of 64 digits, as `hex` reads them
unfoldable pub value_in : List ℕ → Option Data
value_in bytes = if is_utf8 bytes then read bytes else None

-- a whole number from 0 that fits 64 bits, written without a point or an exponent
abbrev pub number_in : Data → Option ℕ
number_in d = option_and_then as_u64 (as_number d)

-- the numbers of a list, if all its items are numbers
abbrev pub numbers_in : Items → Option (List ℕ)
numbers_in no_items = Some []
numbers_in (item d ds) =
    option_and_then (λ n. option_map (λ ns. n ∷ ns) (numbers_in ds)) (number_in d)

-- the texts of a list, if all its items are texts
abbrev pub texts_in : Items → Option (List (List ℕ))
texts_in no_items = Some []
texts_in (item d ds) = option_and_then (λ t. option_map (λ ts. t ∷ ts) (texts_in ds)) (as_str d)

-- the list that an object has at this name
abbrev pub list_at : List ℕ → Data → Option Items
list_at name d = option_and_then as_array (get name d)

-- the number, the numbers and the texts that an object has at this name
abbrev pub number_at : List ℕ → Data → Option ℕ
number_at name d = option_and_then number_in (get name d)

abbrev pub numbers_at : List ℕ → Data → Option (List ℕ)
numbers_at name d = option_and_then numbers_in (list_at name d)

abbrev pub texts_at : List ℕ → Data → Option (List (List ℕ))
texts_at name d = option_and_then texts_in (list_at name d)
