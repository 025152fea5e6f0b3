-- What is written about exports: the group ledger, what waits, and what single exports have beyond
-- it; or why there is no group ledger.
use Rattle.std.specs.Prelude.{◌≡◌, ◌≢◌, ℕ, ◌-◌, ◌==◌, nat_lt, Bool, true, false, List, []}
use Rattle.std.specs.Prelude.{◌++◌, codes, decimal, length, slice_index, sum, Option, Some, None}
use Rattle.std.specs.Prelude.{if◌then◌else◌}
use Rattle.std.specs.List.{flat_map, enumerate_from, range_with_len}
use Rattle.serde_json.specs.Data.{object}
use Rattle.serde_json.specs.Written.{compact_text}
use Rattle.pay_book.specs.Statement.{numbered_entries_of}
use Rattle.pay_book.specs.declared.payment.Entry.{Entry}
use Rattle.pay_book.specs.declared.payment.Entry.TheVariants as entry
use Rattle.pay_audit.specs.ByLists.{next_genesis}
use Rattle.pay_audit.specs.Export.{ExportFields, lists_of}
use Rattle.pay_audit.specs.Exporting.{export_data, genesis_members}
use Rattle.pay_audit.specs.Findings.{end_of_line, payment_or_void}
use Rattle.pay_audit.specs.Verdict.{fork_place}
use Rattle.pay_group.specs.Book.{HasNoBook, IsGroupBook}
use Rattle.pay_group.specs.declared.booking.BookFault.{BookFault}
use Rattle.pay_group.specs.declared.booking.BookFault.TheVariants.{Memory, OtherGenesis, Twice, Few}
use Rattle.pay_group.specs.declared.booking.BookFault.TheVariants.{Split}
use Rattle.pay_group.specs.declared.texts.BookForm.{BookForm}
use Rattle.pay_group.specs.declared.texts.BookForm.TheVariants.{Lines, NextGenesis, AsExport}

-- ---- accounts

-- `account A settled E balance B`
unfoldable pub account_words : ExportFields → ℕ → List ℕ
account_words b account =
    codes "account " ++ decimal account ++ codes " settled "
    ++ decimal (slice_index b.front account)
    ++ codes " balance " ++ decimal (slice_index b.balances account) ++ end_of_line

-- ---- what waits

-- ` short D`: what a balance lacks of a payment
unfoldable pub shortfall_words : ℕ → Entry → List ℕ
shortfall_words balance (entry.Pay payee amount) = codes " short " ++ decimal (amount - balance)
shortfall_words balance entry.Void = []

-- the first entry of an account also has what the balance lacks for it
abbrev pub lack_words : ExportFields → ℕ → ℕ → Entry → List ℕ
lack_words b account number e =
    if number == slice_index b.front account
    then shortfall_words (slice_index b.balances account) e else []

-- `waits account A entry E seq S ..`, with the entry's number and that of its value
unfoldable pub waits_words : ExportFields → ℕ → ℕ → ℕ → Entry → List ℕ
waits_words b account number seq e =
    codes "waits account " ++ decimal account ++ codes " entry " ++ decimal number ++ codes " seq "
    ++ decimal seq
    ++ payment_or_void e ++ lack_words b account number e ++ end_of_line

-- an entry that isn't settled
abbrev pub if_waits : ExportFields → ℕ → ℕ × (ℕ × Entry) → List ℕ
if_waits b account n =
    if nat_lt n.0 (slice_index b.front account) then [] else waits_words b account n.0 n.1.0 n.1.1

-- an account's entries after its front
unfoldable pub account_waiting_words : ExportFields → ℕ → List ℕ
account_waiting_words b account =
    flat_map (if_waits b account)
    (enumerate_from 0 (numbered_entries_of b.genesis.members (lists_of b) account))

-- ---- what single exports have beyond the group ledger

-- `WORD X account A seq S`
unfoldable pub claim_words : List ℕ → ℕ → ℕ → ℕ → List ℕ
claim_words word x account seq =
    word ++ codes " " ++ decimal x ++ codes " account " ++ decimal account ++ codes " seq "
    ++ decimal seq
    ++ end_of_line

-- the place at which an export has another value within the group's list, or else continues after
-- its end
abbrev pub against_words : ℕ → ℕ → Option ℕ → ℕ → ℕ → List ℕ
against_words x account (Some seq) end long = claim_words (codes "differs") x account seq
against_words x account None end long =
    if nat_lt end long then claim_words (codes "beyond") x account end else []

unfoldable pub beyond_words : ExportFields → ℕ → ExportFields → ℕ → List ℕ
beyond_words b x e account =
    against_words x account (fork_place (lists_of b account) (lists_of e account))
    (length (lists_of b account)) (length (lists_of e account))

unfoldable pub export_words : ExportFields → ℕ → ExportFields → List ℕ
export_words b x e = flat_map (beyond_words b x e) (range_with_len 0 b.genesis.members)

-- ---- all of it

-- `total T`
unfoldable pub total_words : ExportFields → List ℕ
total_words b = codes "total " ++ decimal (sum b.balances) ++ end_of_line

-- what waits, account by account
abbrev pub all_waiting_words : ExportFields → List ℕ
all_waiting_words b = flat_map (account_waiting_words b) (range_with_len 0 b.genesis.members)

-- what is beyond the group ledger, export by export
abbrev pub all_export_words : ExportFields → List ExportFields → List ℕ
all_export_words b exports = flat_map (λ n. export_words b n.0 n.1) (enumerate_from 0 exports)

unfoldable pub book_words : List ExportFields → ExportFields → List ℕ
book_words exports b =
    flat_map (account_words b) (range_with_len 0 b.genesis.members)
    ++ all_waiting_words b
    ++ all_export_words b exports
    ++ total_words b

-- the group ledger in the requested form: in lines, as the genesis of the next group, or as an
-- export
unfoldable pub form_words : BookForm → List ExportFields → ExportFields → List ℕ
form_words Lines exports b = book_words exports b
form_words NextGenesis exports b =
    compact_text (object (genesis_members (next_genesis b))) ++ end_of_line
form_words AsExport exports b = compact_text (export_data b) ++ end_of_line

-- the line that says why there is no group ledger
unfoldable pub fault_words : BookFault → List ℕ
fault_words Memory = []
fault_words (OtherGenesis x) = codes "1 genesis " ++ decimal x ++ end_of_line
fault_words (Twice x y) = codes "5 twice " ++ decimal x ++ codes " " ++ decimal y ++ end_of_line
fault_words (Few count) = codes "6 few " ++ decimal count ++ end_of_line
fault_words (Split account seq) =
    codes "7 split account " ++ decimal account ++ codes " seq " ++ decimal seq ++ end_of_line

-- What is said about exports: the text of their group ledger, or the line of a fault that they
-- have. If memory ran out nothing is said.
abbrev pub IsBookText : List ExportFields → BookForm → Bool → List ℕ → Type 0
IsBookText exports form true text =
    (b : ExportFields) × IsGroupBook exports b × (text ≡ form_words form exports b)
IsBookText exports form false text =
    (fault : BookFault) × (fault ≢ Memory) × HasNoBook exports fault × (text ≡ fault_words fault)
