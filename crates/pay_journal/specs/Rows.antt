-- A worked example: four accounts, and their journal written by hand.
use Rattle.std.specs.Prelude.{ℕ, List, [], ◌∷◌, ◌++◌, codes}
use Rattle.std.specs.List.{flat_map}
use Rattle.pay_book.specs.Rows.{five_to_1_one_to_3, four_numbers, four_payments, thirty_to_0}
use Rattle.pay_desk.specs.Words.{end_of_line}
use Rattle.pay_audit.specs.Export.{ExportFields}

-- In one value account 0 pays 30 to 1, 50 to 2, 40 to 1 and 20 to 2; the last payment isn't
-- covered. Account 1 pays 30 to 0. In one value account 3 pays 5 to 1, and 1 to itself, which is
-- void.
abbrev pub worked_export : ExportFields
worked_export =
    record {
      genesis = record { members = 4; faults = 1; opening = four_numbers 100 0 0 50 };
      member = 2;
      lists = (four_payments ∷ []) ∷ (thirty_to_0 ∷ []) ∷ [] ∷ (five_to_1_one_to_3 ∷ []) ∷ [];
      front = four_numbers 3 1 0 2;
      balances = four_numbers 10 45 50 45;
    }

-- a text of these lines
abbrev pub lines_text : List (List ℕ) → List ℕ
lines_text lines = flat_map (λ line. line ++ end_of_line) lines

abbrev pub worked_journal : List ℕ
worked_journal =
    lines_text
    (codes "account account:0"
    ∷ codes "account account:1"
    ∷ codes "account account:2"
    ∷ codes "account account:3"
    ∷ codes "account equity:opening"
    ∷ []
    ∷ codes "2026-01-31 opening balances"
    ∷ codes "    account:0  100"
    ∷ codes "    account:1  0"
    ∷ codes "    account:2  0"
    ∷ codes "    account:3  50"
    ∷ codes "    equity:opening"
    ∷ []
    ∷ codes "2026-01-31 (0.0) account 0 seq 0 entry 0"
    ∷ codes "    account:0  -30"
    ∷ codes "    account:1  30"
    ∷ []
    ∷ codes "2026-01-31 (0.1) account 0 seq 0 entry 1"
    ∷ codes "    account:0  -50"
    ∷ codes "    account:2  50"
    ∷ []
    ∷ codes "2026-01-31 (0.2) account 0 seq 0 entry 2"
    ∷ codes "    account:0  -40"
    ∷ codes "    account:1  40"
    ∷ []
    ∷ codes "2026-01-31 (1.0) account 1 seq 0 entry 0"
    ∷ codes "    account:1  -30"
    ∷ codes "    account:0  30"
    ∷ []
    ∷ codes "2026-01-31 (3.0) account 3 seq 0 entry 0"
    ∷ codes "    account:3  -5"
    ∷ codes "    account:1  5"
    ∷ []
    ∷ codes "; void account 3 seq 0 entry 1"
    ∷ [])
