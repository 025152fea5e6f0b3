-- The group of a script, from its first line.
use Rattle.std.specs.Prelude.{ℕ, nat_lt, ◌^◌, List, codes, Option, Some, None, option_and_then}
use Rattle.std.specs.Prelude.{if◌then◌else◌}
use Rattle.std.specs.List.{list_all}
use Rattle.std.specs.Option.{option_map_or}
use Rattle.std.specs.Result.{result_ok}
use Rattle.pay_link.specs.Json.{numbers_at, value_in}
use Rattle.pay_link.specs.Genesis.{GenesisFields}
use Rattle.pay_link.specs.Files.{genesis_in}
use Rattle.pay_world.specs.Liars.{liar_fault, liars_in}
use Rattle.pay_sim.specs.declared.group.ScriptGroup.{ScriptGroup}

-- the faulty members that a file of JSON contains
unfoldable pub liars_said : List ℕ → Option (List ℕ)
liars_said bytes = option_and_then (numbers_at (codes "liars")) (value_in bytes)

-- these numbers, if each has at most 16 bits
unfoldable pub numbers_if_short : List ℕ → Option (List ℕ)
numbers_if_short numbers = if list_all (λ n. nat_lt n (2 ^ 16)) numbers then Some numbers else None

-- the numbers of faulty members, if they fit; a longer number is no member's
abbrev pub fitting : Option (List ℕ) → Option (List ℕ)
fitting said = option_and_then numbers_if_short said

-- the group with these faulty members, if they have no fault
unfoldable pub with_liars : GenesisFields → List ℕ → Option ScriptGroup
with_liars g liars =
    option_map_or (λ fault. None) (liar_fault (liars_in g liars))
    (Some (record { genesis = g; liars = liars_in g liars }))

-- the group of a file, if its genesis and its faulty members have no fault
unfoldable pub script_group_in : List ℕ → Option ScriptGroup
script_group_in bytes =
    option_and_then (λ g. option_and_then (with_liars g) (fitting (liars_said bytes)))
    (result_ok (genesis_in bytes))
