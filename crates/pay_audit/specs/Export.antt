-- What a member shows of its own without its keys, and what a file of JSON contains about it. The
-- definitions are about the value that bytes are read as. RFC 8259 says which bytes have one.
use Rattle.std.specs.Prelude.{◌≡◌, ℕ, ◌<◌, ◌≤◌, ◌==◌, ◌&&◌, nat_le, nat_lt, List, [], ◌∷◌, codes}
use Rattle.std.specs.Prelude.{length, slice_index_or, All, Bool, Option, Some, None, ok_or}
use Rattle.std.specs.Prelude.{option_and_then, option_map, Result, Ok, Err, if◌then◌else◌}
use Rattle.std.specs.Option.{option_map_or}
use Rattle.serde_json.specs.Data.{Items, item, no_items}
use Rattle.serde_json.specs.Find.{as_array, as_str}
use Rattle.hex.specs.Hex.{decode_of}
use Rattle.hex.specs.declared.error.FromHexError.{FromHexError}
use Rattle.pay_frame.specs.declared.limits.TheConstants.{GREATEST_VALUE, SEQS}
use Rattle.pay_link.specs.Json.{Data, list_at, number_at, numbers_at, value_in}
use Rattle.pay_link.specs.Genesis.{GenesisFields, IsGenesis, genesis_fault}
use Rattle.pay_link.specs.Files.{genesis_said, ◌>>=◌}
use Rattle.pay_audit.specs.declared.exported.ExportFault.{ExportFault}
use Rattle.pay_audit.specs.declared.exported.ExportFault.TheVariants.{BadJson, BadShape, BadGenesis}

-- the genesis, the member that the export belongs to, and each account's list of values, front and
-- balance
pub record ExportFields : Type 0 where
  pub genesis : GenesisFields
  pub member : ℕ
  pub lists : List (List (List ℕ))
  pub front : List ℕ
  pub balances : List ℕ

-- an owner's list
abbrev pub list_in : List (List (List ℕ)) → ℕ → List (List ℕ)
list_in lists owner = slice_index_or lists owner []

abbrev pub lists_of : ExportFields → ℕ → List (List ℕ)
lists_of e = list_in e.lists

-- no owner has more values than it has numbers for
abbrev pub AreShort : List (List (List ℕ)) → Type 0
AreShort lists = All (λ l. length l ≤ SEQS) lists

-- the limits of an export: a genesis, one of its members, and for each account a list, a front and
-- a balance
pub record IsExport (e : ExportFields) : Type 0 where
  pub genesis : IsGenesis e.genesis
  pub member : e.member < e.genesis.members
  pub lists : length e.lists ≡ e.genesis.members
  pub front : length e.front ≡ e.genesis.members
  pub balances : length e.balances ≡ e.genesis.members
  pub short : AreShort e.lists

-- ---- files

abbrev pub decoded_bytes : Result (List ℕ) FromHexError → Option (List ℕ)
decoded_bytes (Ok bytes) = Some bytes
decoded_bytes (Err fault) = None

abbrev pub if_short : {A : Type 0} → ℕ → List A → Option (List A)
if_short most xs = if nat_le (length xs) most then Some xs else None

-- the value that a text encodes: two hexadecimal digits of either case for each byte, as many as a
-- frame's value has
unfoldable pub value_of_text : List ℕ → Option (List ℕ)
value_of_text text = option_and_then (if_short GREATEST_VALUE) (decoded_bytes (decode_of text))

abbrev pub value_said : Data → Option (List ℕ)
value_said d = option_and_then value_of_text (as_str d)

-- the values of a list, if each of its items is a text that encodes a value
abbrev pub values_said : Items → Option (List (List ℕ))
values_said no_items = Some []
values_said (item d ds) =
    option_and_then (λ v. option_map (λ vs. v ∷ vs) (values_said ds)) (value_said d)

-- the values of an owner, no more than it has numbers for
unfoldable pub list_said : Data → Option (List (List ℕ))
list_said d = option_and_then (if_short SEQS) (option_and_then values_said (as_array d))

abbrev pub lists_said : Items → Option (List (List (List ℕ)))
lists_said no_items = Some []
lists_said (item d ds) =
    option_and_then (λ l. option_map (λ ls. l ∷ ls) (lists_said ds)) (list_said d)

-- the lists that an object has at `lists`
unfoldable pub lists_in_data : Data → Option (List (List (List ℕ)))
lists_in_data d = option_and_then lists_said (list_at (codes "lists") d)

-- an object's parts, whatever their sizes
unfoldable pub parts_in : Data → Option ExportFields
parts_in d =
    option_and_then
    (λ genesis. option_and_then (λ member. option_and_then (λ lists. option_and_then (λ front.
    option_map (λ balances. record {
      genesis = genesis;
      member = member;
      lists = lists;
      front = front;
      balances = balances;
    })
    (numbers_at (codes "balances") d)) (numbers_at (codes "front") d)) (lists_in_data d))
    (number_at (codes "member") d))
    (genesis_said d)

-- a member of the count of members in the object, and for each member a list, a front and a balance
abbrev pub is_sized : ExportFields → Bool
is_sized e =
    nat_lt e.member e.genesis.members && (length e.lists == e.genesis.members)
    && (length e.front == e.genesis.members) && (length e.balances == e.genesis.members)

abbrev pub if_sized : ExportFields → Option ExportFields
if_sized e = if is_sized e then Some e else None

-- the export of these parts, if they make a genesis
abbrev pub export_judgement : ExportFields → Result ExportFields ExportFault
export_judgement e = option_map_or (λ _. Err BadGenesis) (genesis_fault e.genesis) (Ok e)

-- the export of a file, or the first of its faults
abbrev pub export_in : List ℕ → Result ExportFields ExportFault
export_in bytes = do
  d ← ok_or (value_in bytes) BadJson
  e ← ok_or (option_and_then if_sized (parts_in d)) BadShape
  export_judgement e
