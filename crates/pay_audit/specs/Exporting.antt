-- A member's own export, as the value that is written.
use Rattle.std.specs.Prelude.{ℕ, List, codes, map}
use Rattle.std.specs.List.{range_with_len}
use Rattle.serde_json.specs.Data.{Data, unsigned, number, string, array, object, Members, member}
use Rattle.serde_json.specs.Data.{no_members}
use Rattle.serde_json.specs.View.{items_of}
use Rattle.hex.specs.Hex.{encode_lower}
use Rattle.pay_link.specs.Genesis.{GenesisFields}
use Rattle.pay_channel.specs.History.{list_of}
use Rattle.pay_member.specs.Group.{group_in}
use Rattle.pay_member.specs.Events.{events}
use Rattle.pay_member.specs.Book.{book_after}
use Rattle.pay_member.specs.Member.{MemberFields}
use Rattle.pay_audit.specs.Export.{ExportFields}

-- the lists of a member after its history
abbrev pub lists_of_member : MemberFields → ℕ → List (List ℕ)
lists_of_member m = list_of (group_in m.genesis m.keys.own) (events m.history)

-- what a member shows of its own without its keys
abbrev pub export_of : MemberFields → ExportFields
export_of m = record {
  genesis = m.genesis;
  member = m.keys.own;
  lists = map (lists_of_member m) (range_with_len 0 m.genesis.members);
  front = (book_after m.genesis m.keys.own (events m.history)).front;
  balances = (book_after m.genesis m.keys.own (events m.history)).balances;
}

-- ---- as a value: its members stand in the order of their names

abbrev pub number_data : ℕ → Data
number_data n = number (unsigned n)

abbrev pub numbers_data : List ℕ → Data
numbers_data ns = array (items_of (map number_data ns))

-- a value as a text of lower-case digits
abbrev pub value_data : List ℕ → Data
value_data v = string (encode_lower v)

abbrev pub list_data : List (List ℕ) → Data
list_data values = array (items_of (map value_data values))

abbrev pub lists_data : List (List (List ℕ)) → Data
lists_data lists = array (items_of (map list_data lists))

-- what an export contains about the genesis
abbrev pub genesis_members : GenesisFields → Members
genesis_members g =
    member (codes "faults") (number_data g.faults)
    (member (codes "members") (number_data g.members)
    (member (codes "opening") (numbers_data g.opening)
    no_members))

unfoldable pub export_data : ExportFields → Data
export_data e =
    object (member (codes "balances") (numbers_data e.balances)
    (member (codes "faults") (number_data e.genesis.faults)
    (member (codes "front") (numbers_data e.front)
    (member (codes "lists") (lists_data e.lists)
    (member (codes "member") (number_data e.member)
    (member (codes "members") (number_data e.genesis.members)
    (member (codes "opening") (numbers_data e.genesis.opening)
    no_members)))))))
