-- Worked examples of four accounts, computed from the definitions.
use Rattle.std.specs.Prelude.{◌≡◌, ℕ, pos, List, [], ◌∷◌, ◌++◌, length, map, take, slice_index}
use Rattle.std.specs.Prelude.{slice_index_or, None}
use Rattle.std.specs.List.{flat_map, range_with_len}
use Rattle.pay_book.specs.declared.excerpts.ShownEntry.{ShownEntry}
use Rattle.pay_book.specs.declared.payment.Entry.{Entry}
use Rattle.pay_book.specs.Notes.{note_value}
use Rattle.pay_book.specs.Payment.{entries_of}
use Rattle.pay_book.specs.Balance.{balance_at}
use Rattle.pay_book.specs.Front.{largest_front}
use Rattle.pay_book.specs.Book.{Standing}
use Rattle.pay_book.specs.Places.{places_of}

-- values, byte by byte: thirty to account 1, five to 0, 1, 2, 3 and 4; then three that are no
-- payments
abbrev pub thirty_to_1 : List ℕ
thirty_to_1 = 1 ∷ 0 ∷ 1 ∷ 0 ∷ 0 ∷ 0 ∷ 0 ∷ 0 ∷ 0 ∷ 0 ∷ 30 ∷ []

abbrev pub five_to_0 : List ℕ
five_to_0 = 1 ∷ 0 ∷ 0 ∷ 0 ∷ 0 ∷ 0 ∷ 0 ∷ 0 ∷ 0 ∷ 0 ∷ 5 ∷ []

abbrev pub five_to_1 : List ℕ
five_to_1 = 1 ∷ 0 ∷ 1 ∷ 0 ∷ 0 ∷ 0 ∷ 0 ∷ 0 ∷ 0 ∷ 0 ∷ 5 ∷ []

abbrev pub five_to_2 : List ℕ
five_to_2 = 1 ∷ 0 ∷ 2 ∷ 0 ∷ 0 ∷ 0 ∷ 0 ∷ 0 ∷ 0 ∷ 0 ∷ 5 ∷ []

abbrev pub five_to_3 : List ℕ
five_to_3 = 1 ∷ 0 ∷ 3 ∷ 0 ∷ 0 ∷ 0 ∷ 0 ∷ 0 ∷ 0 ∷ 0 ∷ 5 ∷ []

abbrev pub five_to_4 : List ℕ
five_to_4 = 1 ∷ 0 ∷ 4 ∷ 0 ∷ 0 ∷ 0 ∷ 0 ∷ 0 ∷ 0 ∷ 0 ∷ 5 ∷ []

abbrev pub unknown_version : List ℕ
unknown_version = 255 ∷ []

abbrev pub one_byte_short : List ℕ
one_byte_short = 1 ∷ 0 ∷ 1 ∷ 0 ∷ 0 ∷ 0 ∷ 0 ∷ 0 ∷ 0 ∷ 0 ∷ []

abbrev pub amount_zero : List ℕ
amount_zero = 1 ∷ 0 ∷ 1 ∷ 0 ∷ 0 ∷ 0 ∷ 0 ∷ 0 ∷ 0 ∷ 0 ∷ 0 ∷ []

-- values that only these examples have
abbrev pub ten_to_0 : List ℕ
ten_to_0 = 1 ∷ 0 ∷ 0 ∷ 0 ∷ 0 ∷ 0 ∷ 0 ∷ 0 ∷ 0 ∷ 0 ∷ 10 ∷ []

abbrev pub ten_to_1 : List ℕ
ten_to_1 = 1 ∷ 0 ∷ 1 ∷ 0 ∷ 0 ∷ 0 ∷ 0 ∷ 0 ∷ 0 ∷ 0 ∷ 10 ∷ []

abbrev pub one_fifty_to_1 : List ℕ
one_fifty_to_1 = 1 ∷ 0 ∷ 1 ∷ 0 ∷ 0 ∷ 0 ∷ 0 ∷ 0 ∷ 0 ∷ 0 ∷ 150 ∷ []

abbrev pub thirty_to_0 : List ℕ
thirty_to_0 = 1 ∷ 0 ∷ 0 ∷ 0 ∷ 0 ∷ 0 ∷ 0 ∷ 0 ∷ 0 ∷ 0 ∷ 30 ∷ []

abbrev pub fifty_to_0 : List ℕ
fifty_to_0 = 1 ∷ 0 ∷ 0 ∷ 0 ∷ 0 ∷ 0 ∷ 0 ∷ 0 ∷ 0 ∷ 0 ∷ 50 ∷ []

abbrev pub greatest_u64_to_1 : List ℕ
greatest_u64_to_1 = 1 ∷ 0 ∷ 1 ∷ 255 ∷ 255 ∷ 255 ∷ 255 ∷ 255 ∷ 255 ∷ 255 ∷ 255 ∷ []

abbrev pub one_to_1 : List ℕ
one_to_1 = 1 ∷ 0 ∷ 1 ∷ 0 ∷ 0 ∷ 0 ∷ 0 ∷ 0 ∷ 0 ∷ 0 ∷ 1 ∷ []

abbrev pub greatest_total_to_1 : List ℕ
greatest_total_to_1 = 1 ∷ 0 ∷ 1 ∷ 127 ∷ 255 ∷ 255 ∷ 255 ∷ 255 ∷ 255 ∷ 255 ∷ 255 ∷ []

-- Values of several payments: thirty to 1, fifty to 2, forty to 1, twenty to 2; and five to 1, one
-- to 3. Then a value without payments, the first value with a byte more and a byte less, and `n`
-- times one to 1.
abbrev pub pair_bytes : ℕ → ℕ → List ℕ
pair_bytes payee amount = 0 ∷ payee ∷ 0 ∷ 0 ∷ 0 ∷ 0 ∷ 0 ∷ 0 ∷ 0 ∷ amount ∷ []

abbrev pub four_payments : List ℕ
four_payments = 2 ∷ 4 ∷ pair_bytes 1 30 ++ pair_bytes 2 50 ++ pair_bytes 1 40 ++ pair_bytes 2 20

abbrev pub five_to_1_one_to_3 : List ℕ
five_to_1_one_to_3 = 2 ∷ 2 ∷ pair_bytes 1 5 ++ pair_bytes 3 1

abbrev pub no_payments : List ℕ
no_payments = 2 ∷ 0 ∷ []

abbrev pub four_payments_and_more : List ℕ
four_payments_and_more = four_payments ++ 0 ∷ []

abbrev pub four_payments_and_less : List ℕ
four_payments_and_less = take 41 four_payments

abbrev pub times_one_to_1 : ℕ → List ℕ
times_one_to_1 n = 2 ∷ n ∷ flat_map (λ _. pair_bytes 1 1) (range_with_len 0 n)

-- a number for each of the four accounts
abbrev pub four_numbers : ℕ → ℕ → ℕ → ℕ → List ℕ
four_numbers a b c d = a ∷ b ∷ c ∷ d ∷ []

-- the four owners' lists
abbrev pub four_lists :
    List (List ℕ) → List (List ℕ) → List (List ℕ) → List (List ℕ) → ℕ → List (List ℕ)
four_lists a b c d owner = slice_index_or (a ∷ b ∷ c ∷ d ∷ []) owner []

-- A ledger with these opening balances that has settled all it can shows this front and these
-- balances.
pub record EndsAt (opening : List ℕ) (lists : ℕ → List (List ℕ)) (front balances : List ℕ)
    : Type 0 where
  pub at_front : largest_front opening (entries_of (length opening) lists) ≡ front
  pub at_balances :
      map (balance_at opening (entries_of (length opening) lists) (slice_index front))
      (range_with_len 0 (length opening))
      ≡ map pos balances

-- Account 0 lists four payments in one value and one payment in another. Account 1 lists one
-- payment to account 0. The first three of account 0 and the one of account 1 are settled.
abbrev pub five_listed : ℕ → List (List ℕ)
five_listed = four_lists (four_payments ∷ thirty_to_1 ∷ []) (thirty_to_0 ∷ []) [] []

abbrev pub three_of_five : Standing
three_of_five =
    record {
      opening = four_numbers 100 0 0 50;
      front = four_numbers 3 1 0 0;
      balances = four_numbers 10 40 50 50;
      places = places_of 4 five_listed (slice_index (four_numbers 3 1 0 0));
    }

-- an entry of a value that is no note
abbrev pub unsaid : ℕ → Entry → ShownEntry
unsaid seq entry = record { seq = seq; entry = entry; note = None }

-- Account 0 lists a payment and what may be a note of this text, and both are settled.
abbrev pub paid_and_said : List ℕ → ℕ → List (List ℕ)
paid_and_said text = four_lists (thirty_to_1 ∷ note_value text ∷ []) [] [] []

abbrev pub both_settled : List ℕ → Standing
both_settled text =
    record {
      opening = four_numbers 100 0 0 50;
      front = four_numbers 2 0 0 0;
      balances = four_numbers 70 30 0 50;
      places = places_of 4 (paid_and_said text) (slice_index (four_numbers 2 0 0 0));
    }
