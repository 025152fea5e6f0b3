-- A world with correct members that know the same: they delivered equal values, no value that one
-- of them submitted is missing, and their ledgers are equal.
use Rattle.std.specs.Prelude.{◌≡◌, ℕ, List, slice_get, Option, Some}
use Rattle.pay_channel.specs.History.{delivered_at, list_of}
use Rattle.pay_channel.specs.Asked.{asked_values}
use Rattle.pay_book.specs.Book.{Standing}
use Rattle.pay_member.specs.Group.{group_in}
use Rattle.pay_member.specs.Book.{book_after}
use Rattle.pay_world.specs.Setting.{IsCorrect}
use Rattle.pay_world.specs.World.{WorldFields, setting_in, history_in}

-- ---- of one member, as its own calls show it

-- what member i delivered under number s of account a
abbrev pub delivered_in : WorldFields → ℕ → ℕ → ℕ → Option (List ℕ)
delivered_in w i a s = delivered_at (group_in w.genesis i) (history_in w i) a s

-- each account's list
abbrev pub lists_in : WorldFields → ℕ → ℕ → List (List ℕ)
lists_in w i = list_of (group_in w.genesis i) (history_in w i)

abbrev pub book_in : WorldFields → ℕ → Standing
book_in w i = book_after w.genesis i (history_in w i)

-- the values that the member submitted, each under its place
abbrev pub asked_in : WorldFields → ℕ → List (List ℕ)
asked_in w i = asked_values (history_in w i)

-- ---- of all correct members

-- they delivered equal values, and so have equal lists
pub record DeliveredAlike (w : WorldFields) : Type 0 where
  pub values :
      (i j a s : ℕ) → IsCorrect (setting_in w) i → IsCorrect (setting_in w) j
      → delivered_in w i a s ≡ delivered_in w j a s
  pub lists :
      (i j a : ℕ) → IsCorrect (setting_in w) i → IsCorrect (setting_in w) j
      → lists_in w i a ≡ lists_in w j a

-- each delivered every value that any of them submitted, under the value's number
pub record DeliveredAsked (w : WorldFields) : Type 0 where
  pub each :
      (i a s : ℕ) (v : List ℕ) → IsCorrect (setting_in w) i → IsCorrect (setting_in w) a
      → slice_get (asked_in w a) s ≡ Some v → delivered_in w i a s ≡ Some v

-- all have equal fronts and equal balances
pub record BooksAlike (w : WorldFields) : Type 0 where
  pub each :
      (i j : ℕ) → IsCorrect (setting_in w) i → IsCorrect (setting_in w) j
      → book_in w i ≡ book_in w j
