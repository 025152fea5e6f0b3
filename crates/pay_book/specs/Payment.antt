-- What broadcast values mean to the ledger: this project's own format, stated in docs/formats.md.
use Rattle.std.specs.Prelude.{ℕ, ◌+◌, ◌*◌, ◌^◌, Option, Some, None, Bool, List, [], ◌∷◌, ◌++◌}
use Rattle.std.specs.Prelude.{length, map, slice_index, slice_range, nat_lt, nat_le, ◌==◌, ◌&&◌}
use Rattle.std.specs.Prelude.{not, if◌then◌else◌}
use Rattle.std.specs.List.{flat_map, list_all, range_with_len}
use Rattle.std.specs.Int.{from_be_bytes, to_be_bytes, w16, w64}
use Rattle.pay_book.specs.declared.payment.Entry.{Entry}
use Rattle.pay_book.specs.declared.payment.Payment.{Payment}
use Rattle.pay_book.specs.declared.payment.TheConstants.{PAYMENT_LENGTH, PAYMENT_VERSION}
use Rattle.pay_book.specs.declared.payment.TheConstants.{SEVERAL_VERSION, MOST_PAYMENTS}
use Rattle.pay_book.specs.declared.payment.TheConstants.{PAIR_LENGTH}
use Rattle.pay_book.specs.declared.payment.Entry.TheVariants.{Pay, Void}

-- A payment of more than nothing to an existing account that isn't the owner's own. Otherwise
-- nothing moves.
abbrev pub payment : ℕ → ℕ → ℕ → ℕ → Entry
payment accounts owner payee amount =
    if nat_lt payee accounts && not (payee == owner) && not (amount == 0)
    then Pay payee amount
    else Void

-- What a pair of payee and amount means: the payee in two bytes and the amount in eight, the
-- greatest byte first.
unfoldable pub pair_entry : ℕ → ℕ → List ℕ → Entry
pair_entry accounts owner pair =
    payment accounts owner (from_be_bytes w16 (slice_range pair 0 2))
    (from_be_bytes w64 (slice_range pair 2 PAIR_LENGTH))

-- A value of one payment: the version and the pair. No other value is one.
unfoldable pub entry_of : ℕ → ℕ → List ℕ → Entry
entry_of accounts owner value =
    if length value == PAYMENT_LENGTH && slice_index value 0 == PAYMENT_VERSION
    then pair_entry accounts owner (slice_range value 1 PAYMENT_LENGTH)
    else Void

-- the value of this payment
unfoldable pub payment_value : ℕ → ℕ → List ℕ
payment_value payee amount = PAYMENT_VERSION ∷ to_be_bytes w16 payee ++ to_be_bytes w64 amount

-- the pair of a payment
abbrev pub pair_bytes : Payment → List ℕ
pair_bytes p = to_be_bytes w16 p.payee ++ to_be_bytes w64 p.amount

-- the value of these payments
unfoldable pub payments_value : List Payment → List ℕ
payments_value payments = SEVERAL_VERSION ∷ length payments ∷ flat_map pair_bytes payments

-- A value of several payments: its own version, how many they are, and a pair for each.
unfoldable pub is_several : List ℕ → Bool
is_several value =
    slice_index value 0 == SEVERAL_VERSION && nat_lt 0 (slice_index value 1)
    && nat_le (slice_index value 1) MOST_PAYMENTS
    && length value == 2 + PAIR_LENGTH * slice_index value 1

-- the pair at this place
abbrev pub pair_at : List ℕ → ℕ → List ℕ
pair_at value place =
    slice_range value (2 + PAIR_LENGTH * place) (2 + PAIR_LENGTH * place + PAIR_LENGTH)

-- the most entries that a value has
abbrev pub most_entries : ℕ
most_entries = MOST_PAYMENTS

-- the count of entries of a value
unfoldable pub count_in : List ℕ → ℕ
count_in value = if is_several value then slice_index value 1 else 1

-- A value's entries, in its order: one for each pair of several payments. Otherwise the value is
-- one entry.
-- page: `entries_in`, `payment_value`, `payments_value`: a value's entries; the value of one
--   payment, and of several
unfoldable pub entries_in : ℕ → ℕ → List ℕ → List Entry
entries_in accounts owner value =
    if is_several value
    then map (λ place. pair_entry accounts owner (pair_at value place))
    (range_with_len 0 (slice_index value 1))
    else entry_of accounts owner value ∷ []

-- The entries of an owner's list: those of its values, joined in order.
unfoldable pub entries_of : ℕ → (ℕ → List (List ℕ)) → ℕ → List Entry
entries_of accounts lists owner = flat_map (entries_in accounts owner) (lists owner)

-- ---- payments by numbers, as texts name them

-- whether a value can name such a payee
abbrev pub names_payee : ℕ × ℕ → Bool
names_payee pair = nat_lt pair.0 (2 ^ 16)

-- the payment of this amount to this payee
abbrev pub payment_named : ℕ × ℕ → Payment
payment_named pair = record { payee = pair.0; amount = pair.1 }

-- these payments, if values can name their payees
unfoldable pub payments_named : List (ℕ × ℕ) → Option (List Payment)
payments_named pairs =
    if list_all names_payee pairs then Some (map payment_named pairs) else None
