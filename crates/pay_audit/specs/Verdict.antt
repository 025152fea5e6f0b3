-- An auditor's answer to several exports, each named by its place from 0. Fronts and balances are
-- judged by the export's own lists. These definitions don't say how a ledger is settled.
use Rattle.std.specs.Prelude.{ℕ, ◌+◌, ◌==◌, ◌&&◌, Bool, List, [], ◌∷◌, slice_index, Option, Some}
use Rattle.std.specs.Prelude.{None, option_map, unwrap_or, if◌then◌else◌, ◌++◌, codes, decimal}
use Rattle.std.specs.Option.{option_or}
use Rattle.std.specs.List.{zip}
use Rattle.std.specs.Str.{bytes_eq}
use Rattle.pay_link.specs.Genesis.{GenesisFields}
use Rattle.pay_book.specs.Book.{Standing}
use Rattle.pay_book.specs.Settled.{settled_book}
use Rattle.pay_audit.specs.Export.{ExportFields, lists_of}
use Rattle.pay_audit.specs.declared.auditing.Verdict.{Verdict}
use Rattle.pay_audit.specs.declared.auditing.Verdict.TheVariants.{Clean, OtherGenesis, WrongFront}
use Rattle.pay_audit.specs.declared.auditing.Verdict.TheVariants.{WrongBalance, Fork}

-- the first answer that there is, if each item is tested with its place, counted from here
abbrev pub first_from : {A B : Type 0} → (ℕ → A → Option B) → ℕ → List A → Option B
first_from ask place [] = None
first_from ask place (x ∷ xs) = option_or (ask place x) (first_from ask (place + 1) xs)

-- ---- another genesis

abbrev pub same_genesis : GenesisFields → GenesisFields → Bool
same_genesis g h =
    (g.members == h.members) && (g.faults == h.faults) && bytes_eq g.opening h.opening

abbrev pub other_genesis_at : GenesisFields → ℕ → ExportFields → Option Verdict
other_genesis_at g x e = if same_genesis g e.genesis then None else Some (OtherGenesis x)

abbrev pub other_genesis : List ExportFields → Option Verdict
other_genesis [] = None
other_genesis (e ∷ es) = first_from (other_genesis_at e.genesis) 0 (e ∷ es)

-- ---- a wrong front, a wrong balance

-- the ledger of an export's own lists: all is settled that they allow
abbrev pub book_of : ExportFields → Standing
book_of e = settled_book e.genesis.opening (lists_of e)

-- this account, if its number isn't the right one
abbrev pub if_other : List ℕ → ℕ → ℕ → Option ℕ
if_other right a number = if number == slice_index right a then None else Some a

unfoldable pub wrong_front_of : ExportFields → Option ℕ
wrong_front_of e = first_from (if_other (book_of e).front) 0 e.front

unfoldable pub wrong_balance_of : ExportFields → Option ℕ
wrong_balance_of e = first_from (if_other (book_of e).balances) 0 e.balances

abbrev pub wrong_front_at : ℕ → ExportFields → Option Verdict
wrong_front_at x e = option_map (WrongFront x) (wrong_front_of e)

abbrev pub wrong_balance_at : ℕ → ExportFields → Option Verdict
wrong_balance_at x e = option_map (WrongBalance x) (wrong_balance_of e)

-- a wrong front of any export comes before a wrong balance
abbrev pub wrong_book : List ExportFields → Option Verdict
wrong_book exports =
    option_or (first_from wrong_front_at 0 exports) (first_from wrong_balance_at 0 exports)

-- ---- a fork

-- this place, if the values at it differ
abbrev pub if_differ : ℕ → List ℕ × List ℕ → Option ℕ
if_differ place values = if bytes_eq values.0 values.1 then None else Some place

-- the first place at which two lists both have a value and differ
unfoldable pub fork_place : List (List ℕ) → List (List ℕ) → Option ℕ
fork_place one other = first_from if_differ 0 (zip one other)

abbrev pub fork_of : ℕ → ℕ → ℕ → List (List ℕ) × List (List ℕ) → Option Verdict
fork_of x y owner lists = option_map (Fork x y owner) (fork_place lists.0 lists.1)

-- export x against export y
unfoldable pub fork_between : ℕ → ExportFields → ℕ → ExportFields → Option Verdict
fork_between x one y other = first_from (fork_of x y) 0 (zip one.lists other.lists)

-- each export against those after it
abbrev pub fork_from : ℕ → List ExportFields → Option Verdict
fork_from x [] = None
fork_from x (e ∷ es) = option_or (first_from (fork_between x e) (x + 1) es) (fork_from (x + 1) es)

-- ---- the verdict

-- page: `verdict_of`, `IsSaid`: the least case of the first kind, item by item; the same in the
--   subject's words
unfoldable pub verdict_of : List ExportFields → Verdict
verdict_of exports =
    unwrap_or (option_or (other_genesis exports)
    (option_or (wrong_book exports) (fork_from 0 exports))) Clean

-- ---- the printed form

abbrev pub verdict_words : Verdict → List ℕ
verdict_words Clean = codes "clean"
verdict_words (OtherGenesis export) = codes "1 genesis " ++ decimal export
verdict_words (WrongFront export account) =
    codes "2 front " ++ decimal export ++ codes " account " ++ decimal account
verdict_words (WrongBalance export account) =
    codes "3 balance " ++ decimal export ++ codes " account " ++ decimal account
verdict_words (Fork one other owner seq) =
    codes "4 fork " ++ decimal one ++ codes " " ++ decimal other
    ++ codes " owner " ++ decimal owner ++ codes " seq " ++ decimal seq
