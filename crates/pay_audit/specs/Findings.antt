-- All that is wrong with exports, each named by its file. Exports of another group are named. Of
-- the others, each front and each balance is named that isn't what the export's own lists allow.
-- Each number of an account with several listed values is named, with the exports that list each.
use Rattle.std.specs.Prelude.{ℕ, ◌==◌, ◌++◌, max, Bool, true, false, List, [], ◌∷◌, codes, count_by}
use Rattle.std.specs.Prelude.{decimal, filter, length, slice_get, slice_index, take, Option, None}
use Rattle.std.specs.Prelude.{if◌then◌else◌}
use Rattle.std.specs.Option.{option_map_or, option_or}
use Rattle.std.specs.List.{enumerate_from, flat_map, list_any, range_with_len}
use Rattle.std.specs.Str.{bytes_eq}
use Rattle.pay_book.specs.Payment.{entries_in}
use Rattle.pay_book.specs.declared.payment.Entry.{Entry}
use Rattle.pay_book.specs.declared.payment.Entry.TheVariants as entry
use Rattle.pay_link.specs.Genesis.{GenesisFields}
use Rattle.pay_audit.specs.Export.{lists_of}
use Rattle.pay_audit.specs.Verdict.{book_of, same_genesis}
use Rattle.pay_audit.specs.declared.findings.Named.{Named}

-- a line feed
abbrev pub end_of_line : List ℕ
end_of_line = 10 ∷ []

-- ` NAME`
abbrev pub name_words : Named → List ℕ
name_words n = codes " " ++ n.name.now

-- ` in NAME` and a line feed
abbrev pub in_words : Named → List ℕ
in_words n = codes " in" ++ name_words n ++ end_of_line

-- ---- other groups

-- whether an export has this genesis
abbrev pub has_genesis : GenesisFields → Named → Bool
has_genesis g n = same_genesis g n.export.now.genesis

-- `1 genesis in NAME`
abbrev pub stranger_words : GenesisFields → Named → List ℕ
stranger_words g n = if has_genesis g n then [] else codes "1 genesis" ++ in_words n

-- ---- fronts and balances

-- `KIND account A says S right R in NAME`
unfoldable pub said_words : List ℕ → Named → ℕ → ℕ → ℕ → List ℕ
said_words kind n account said right =
    kind ++ codes " account " ++ decimal account ++ codes " says " ++ decimal said
    ++ codes " right " ++ decimal right
    ++ in_words n

-- the words, if the number isn't the right one
abbrev pub if_wrong : List ℕ → Named → ℕ → ℕ → ℕ → List ℕ
if_wrong kind n account said right =
    if said == right then [] else said_words kind n account said right

-- an account's front and balance against those of the ledger of the export's own lists
abbrev pub account_finding_words : Named → ℕ → List ℕ
account_finding_words n account =
    if_wrong (codes "2 front") n account (slice_index n.export.now.front account)
    (slice_index (book_of n.export.now).front account)
    ++ if_wrong (codes "3 balance") n account (slice_index n.export.now.balances account)
    (slice_index (book_of n.export.now).balances account)

unfoldable pub book_finding_words : Named → List ℕ
book_finding_words n =
    flat_map (account_finding_words n) (range_with_len 0 n.export.now.genesis.members)

-- ---- forks

-- the value that an export lists for an account under this number, if it lists one
abbrev pub listed_value_at : ℕ → ℕ → Named → Option (List ℕ)
listed_value_at owner seq n = slice_get (lists_of n.export.now owner) seq

-- whether an export lists this value there
abbrev pub lists_value : ℕ → ℕ → List ℕ → Named → Bool
lists_value owner seq value n =
    option_map_or (λ v. bytes_eq v value) (listed_value_at owner seq n) false

-- whether an export lists another value there
abbrev pub lists_other : ℕ → ℕ → List ℕ → Named → Bool
lists_other owner seq value n =
    option_map_or (λ v. if bytes_eq v value then false else true)
    (listed_value_at owner seq n) false

-- the value of the first export that lists one there
abbrev pub first_value : ℕ → ℕ → List Named → Option (List ℕ)
first_value owner seq [] = None
first_value owner seq (n ∷ ns) = option_or (listed_value_at owner seq n) (first_value owner seq ns)

-- whether an export lists another value there than the first that lists one
abbrev pub is_forked : List Named → ℕ → ℕ → Bool
is_forked group owner seq =
    option_map_or (λ value. list_any (lists_other owner seq value) group)
    (first_value owner seq group) false

-- ` to PAYEE amount AMOUNT` or ` void`
unfoldable pub payment_or_void : Entry → List ℕ
payment_or_void (entry.Pay payee amount) =
    codes " to " ++ decimal payee ++ codes " amount " ++ decimal amount
payment_or_void entry.Void = codes " void"

-- `4 fork owner A seq S ENTRIES exports K in NAMES`: a value's entries, how many exports list it,
-- and which
unfoldable pub value_words : ℕ → List Named → ℕ → ℕ → List ℕ → List ℕ
value_words members group owner seq value =
    codes "4 fork owner " ++ decimal owner ++ codes " seq " ++ decimal seq
    ++ flat_map payment_or_void (entries_in members owner value)
    ++ codes " exports " ++ decimal (count_by (lists_value owner seq value) group)
    ++ codes " in" ++ flat_map name_words (filter (lists_value owner seq value) group)
    ++ end_of_line

-- the line of the value that an export lists there, unless an earlier export lists it too
abbrev pub if_first : ℕ → List Named → ℕ → ℕ → ℕ × Named → List ℕ
if_first members group owner seq n =
    option_map_or
    (λ value. if list_any (lists_value owner seq value) (take n.0 group) then []
    else value_words members group owner seq value)
    (listed_value_at owner seq n.1) []

-- each value there
unfoldable pub values_words : ℕ → List Named → ℕ → ℕ → List ℕ
values_words members group owner seq =
    flat_map (if_first members group owner seq) (enumerate_from 0 group)

abbrev pub fork_words : ℕ → List Named → ℕ → ℕ → List ℕ
fork_words members group owner seq =
    if is_forked group owner seq then values_words members group owner seq else []

-- the length of the longest of their lists of an account
unfoldable pub longest : ℕ → List Named → ℕ
longest owner [] = 0
longest owner (n ∷ ns) = max (length (lists_of n.export.now owner)) (longest owner ns)

unfoldable pub owner_words : ℕ → List Named → ℕ → List ℕ
owner_words members group owner =
    flat_map (fork_words members group owner) (range_with_len 0 (longest owner group))

-- ---- all of it

unfoldable pub group_words : ℕ → List Named → List ℕ
group_words members group =
    flat_map book_finding_words group
    ++ flat_map (owner_words members group) (range_with_len 0 members)

-- the exports of another group than the first; then what is wrong with its group
unfoldable pub findings_by : GenesisFields → List Named → List ℕ
findings_by g exports =
    flat_map (stranger_words g) exports ++ group_words g.members (filter (has_genesis g) exports)

abbrev pub findings_words : List Named → List ℕ
findings_words [] = []
findings_words (n ∷ ns) = findings_by n.export.now.genesis (n ∷ ns)
