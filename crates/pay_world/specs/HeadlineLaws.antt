-- Statements about lists and ledgers by genuine actions. Each is proved as a public law.
use Rattle.std.specs.Prelude.{◌≡◌, ◌⊎◌, ℕ, List, length}
use Rattle.std.specs.List.{flat_map}
use Rattle.pay_channel.specs.Prefix.{IsPrefix}
use Rattle.pay_channel.specs.Asked.{asked_values}
use Rattle.pay_book.specs.Payment.{entries_in}
use Rattle.pay_world.specs.Setting.{Setting, IsCorrect, HasFewFaulty}
use Rattle.pay_world.specs.Actions.{Action, history_by}
use Rattle.pay_world.specs.Genuine.{AreGenuine}
use Rattle.pay_world.specs.Convergence.{AllTaken}
use Rattle.pay_world.specs.Headline.{lists_by, book_by, settled_by, settled_values_by, Headline}

-- ---- ledgers

abbrev pub HeadlineHolds : Type 0
HeadlineHolds =
    (w : Setting) (opening : List ℕ) (actions : List Action) → HasFewFaulty w → AreGenuine w actions
    → Headline w opening actions

abbrev pub BooksConverge : Type 0
BooksConverge =
    (w : Setting) (opening : List ℕ) (actions : List Action) (i j : ℕ)
    → HasFewFaulty w → AreGenuine w actions → AllTaken w (history_by w actions)
    → IsCorrect w i → IsCorrect w j
    → book_by w opening actions i ≡ book_by w opening actions j

-- ---- lists

abbrev pub NoListForks : Type 0
NoListForks =
    (w : Setting) (actions one other : List Action) (i j a : ℕ)
    → HasFewFaulty w → AreGenuine w actions → IsPrefix one actions → IsPrefix other actions
    → IsCorrect w i → IsCorrect w j
    → IsPrefix (lists_by w one i a) (lists_by w other j a)
    ⊎ IsPrefix (lists_by w other j a) (lists_by w one i a)

abbrev pub ListWasAsked : Type 0
ListWasAsked =
    (w : Setting) (actions : List Action) (i a : ℕ) → HasFewFaulty w → AreGenuine w actions
    → IsCorrect w i → IsCorrect w a
    → IsPrefix (lists_by w actions i a) (asked_values (history_by w actions a))

-- a list at an earlier moment, of any member and whatever the actions
abbrev pub ListStays : Type 0
ListStays =
    (w : Setting) (one actions : List Action) (i a : ℕ) → IsPrefix one actions
    → IsPrefix (lists_by w one i a) (lists_by w actions i a)

-- if everything was accepted
abbrev pub ListsAreEqual : Type 0
ListsAreEqual =
    (w : Setting) (actions : List Action) (i j : ℕ)
    → HasFewFaulty w → AreGenuine w actions → AllTaken w (history_by w actions)
    → IsCorrect w i → IsCorrect w j
    → lists_by w actions i ≡ lists_by w actions j

abbrev pub ListIsComplete : Type 0
ListIsComplete =
    (w : Setting) (actions : List Action) (i a : ℕ)
    → HasFewFaulty w → AreGenuine w actions → AllTaken w (history_by w actions)
    → IsCorrect w i → IsCorrect w a
    → lists_by w actions i a ≡ asked_values (history_by w actions a)

-- ---- settled values

-- the entries of wholly settled values are the first of the settled entries; the other settled
-- entries belong to one more value
abbrev pub SettledValuesMakeBeginning : Type 0
SettledValuesMakeBeginning =
    (w : Setting) (opening : List ℕ) (actions : List Action) (i a : ℕ)
    → IsPrefix (flat_map (entries_in (length opening) a) (settled_values_by w opening actions i a))
    (settled_by w opening actions i a)

abbrev pub NoSettledValueForks : Type 0
NoSettledValueForks =
    (w : Setting) (opening : List ℕ) (actions one other : List Action) (i j a : ℕ)
    → HasFewFaulty w → AreGenuine w actions → IsPrefix one actions → IsPrefix other actions
    → IsCorrect w i → IsCorrect w j
    → IsPrefix (settled_values_by w opening one i a) (settled_values_by w opening other j a)
    ⊎ IsPrefix (settled_values_by w opening other j a) (settled_values_by w opening one i a)

-- at an earlier moment, of any member and whatever the actions
abbrev pub SettledValuesStay : Type 0
SettledValuesStay =
    (w : Setting) (opening : List ℕ) (one actions : List Action) (i a : ℕ) → IsPrefix one actions
    → IsPrefix (settled_values_by w opening one i a) (settled_values_by w opening actions i a)

abbrev pub SettledValuesWereAsked : Type 0
SettledValuesWereAsked =
    (w : Setting) (opening : List ℕ) (actions : List Action) (i a : ℕ)
    → HasFewFaulty w → AreGenuine w actions → IsCorrect w i → IsCorrect w a
    → IsPrefix (settled_values_by w opening actions i a) (asked_values (history_by w actions a))
