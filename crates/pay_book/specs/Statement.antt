-- An account's statement: its own settled entries, then what others' settled entries paid to it.
use Rattle.std.specs.Prelude.{ℕ, List, ◌++◌, map, take, Option, Some, None, ◌==◌, if◌then◌else◌}
use Rattle.std.specs.List.{flat_map, filter_map, enumerate_from, range_with_len}
use Rattle.pay_book.specs.declared.payment.Entry.{Entry}
use Rattle.pay_book.specs.declared.payment.Entry.TheVariants as entry
use Rattle.pay_book.specs.declared.line.Line.{Line}
use Rattle.pay_book.specs.declared.line.Line.TheVariants as line
use Rattle.pay_book.specs.Payment.{entries_in}

-- the entries of an owner's list, each with the place of its value
unfoldable pub numbered_entries_of : ℕ → (ℕ → List (List ℕ)) → ℕ → List (ℕ × Entry)
numbered_entries_of accounts lists owner =
    flat_map (λ v. map (λ e. (v.0, e)) (entries_in accounts owner v.1))
    (enumerate_from 0 (lists owner))

-- an account's own entry
abbrev pub own_line : ℕ → Entry → Line
own_line seq (entry.Pay payee amount) = line.Out seq payee amount
own_line seq entry.Void = line.Void seq

-- another owner's entry, if it pays to the account
abbrev pub incoming_line : ℕ → ℕ → ℕ → Entry → Option Line
incoming_line account owner seq (entry.Pay payee amount) =
    if payee == account then Some (line.In owner seq amount) else None
incoming_line account owner seq entry.Void = None

abbrev pub own_lines : ℕ → (ℕ → List (List ℕ)) → (ℕ → ℕ) → ℕ → List Line
own_lines accounts lists front account =
    map (λ e. own_line e.0 e.1) (take (front account) (numbered_entries_of accounts lists account))

abbrev pub incoming_lines : ℕ → (ℕ → List (List ℕ)) → (ℕ → ℕ) → ℕ → ℕ → List Line
incoming_lines accounts lists front account owner =
    filter_map (λ e. incoming_line account owner e.0 e.1)
    (take (front owner) (numbered_entries_of accounts lists owner))

-- The account's own settled entries by place, including void ones, then the settled payments to it,
-- by owner and place.
unfoldable pub statement_of : ℕ → (ℕ → List (List ℕ)) → (ℕ → ℕ) → ℕ → List Line
statement_of accounts lists front account =
    own_lines accounts lists front account
    ++ flat_map (incoming_lines accounts lists front account) (range_with_len 0 accounts)

-- the lines of a statement, and the account's balance
pub record StatementFields : Type 0 where
  pub lines : List Line
  pub balance : ℕ
