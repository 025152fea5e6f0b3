-- Statements about when a desk refuses, and about a desk over all lines. Each is proved as a public
-- law.
use Rattle.std.specs.Prelude.{◌≡◌, ◌↔◌, ◌⊎◌, ℕ, ◌<◌, ◌≤◌, ◌^◌, Bool, true, All, Any, List, [], ◌∷◌}
use Rattle.std.specs.Prelude.{◌++◌, map, None, Option, Some, ⊤}
use Rattle.pay_text.specs.Answers.{Answers}
use Rattle.pay_book.specs.Notes.{note_value}
use Rattle.pay_desk.specs.declared.desk.Desk.{Desk}
use Rattle.pay_desk.specs.declared.fault.DeskFault.TheVariants.{NoAccount, ZeroOrSelf}
use Rattle.pay_desk.specs.declared.kept.Kept.{Kept}
use Rattle.pay_desk.specs.declared.command.Payments.{Payments}
use Rattle.pay_desk.specs.Answers.{account_fault, pay_fault}
use Rattle.pay_desk.specs.Calls.{Exchange}
use Rattle.pay_desk.specs.Desk.{DeskSays}
use Rattle.pay_desk.specs.Kept.{kept_under, is_value}
use Rattle.pay_desk.specs.Payments.{pairs_of, value_of_payments, if_named}

-- ---- refusals

-- a question about an account that doesn't exist
abbrev pub AccountCause : Type 0
AccountCause =
    (accounts account : ℕ) → (account_fault accounts account ≡ Some NoAccount)
    ↔ (accounts ≤ account)

-- payments with a payee that is no account
abbrev pub PayeeCause : Type 0
PayeeCause =
    (accounts own : ℕ) (pairs : List (ℕ × ℕ))
    → (pay_fault accounts own pairs ≡ Some NoAccount) ↔ Any (λ p. accounts ≤ p.0) pairs

-- payments with existing payees, at least one of them of nothing or to the payer
abbrev pub PaymentCause : Type 0
PaymentCause =
    (accounts own : ℕ) (pairs : List (ℕ × ℕ))
    → (pay_fault accounts own pairs ≡ Some ZeroOrSelf)
    ↔ (All (λ p. p.0 < accounts) pairs × Any (λ p. (p.1 ≡ 0) ⊎ (p.0 ≡ own)) pairs)

-- ---- kept ids

-- numbers of a line
abbrev pub AreOfLine : Payments → Type 0
AreOfLine payments = All (λ p. p.1 < 2 ^ 64) (pairs_of payments)

-- A kept id has its answer for the very payments that were submitted: no others have their value.
abbrev pub KeptAnswersItsOwn : Type 0
KeptAnswersItsOwn =
    (asked again : Payments) → AreOfLine asked → AreOfLine again
    → if_named asked (value_of_payments asked) ≡ Some (value_of_payments asked)
    → is_value (if_named again (value_of_payments again)) (value_of_payments asked) ≡ true
    → again ≡ asked

-- A kept id of a note has its answer for the very note. No payment has a note's value.
pub record KeptAnswersItsNote : Type 0 where
  pub note :
      (said again : List ℕ) → is_value (Some (note_value again)) (note_value said) ≡ true
      → again ≡ said
  pub paid :
      (said : List ℕ) (again : Payments)
      → is_value (if_named again (value_of_payments again)) (note_value said) ≡ true → ⊥
  pub said :
      (asked : Payments) (again : List ℕ)
      → is_value (Some (note_value again)) (value_of_payments asked) ≡ true → ⊥

-- ---- all lines

-- these values are kept after the others, each under an id that was free before
abbrev pub AreUnderFreeIds : List Kept → List Kept → Type 0
AreUnderFreeIds kept [] = ⊤
AreUnderFreeIds kept (k ∷ more) =
    (kept_under k.id kept ≡ None) × AreUnderFreeIds (kept ++ k ∷ []) more

-- What a desk had its teller broadcast is just what it keeps since then, in order, each under an id
-- that was free.
pub record AsksOnce {T : Type 0} (asked : T → List (List ℕ)) (old new : Desk T) : Type 0 where
  pub more : List Kept
  pub kept : new.kept ≡ old.kept ++ more
  pub broadcast : asked new.teller ≡ asked old.teller ++ map (λ k. k.value) more
  pub free : AreUnderFreeIds old.kept more

abbrev pub LineAsksOnce :
    {T : Type 0} → (T → Exchange → T → Type 0) → (T → List (List ℕ)) → Type 0
LineAsksOnce {T} says asked =
    (old new : Desk T) (line : Option (List ℕ)) (text : List ℕ) (on : Bool)
    → DeskSays says old line text on new → AsksOnce asked old new

abbrev pub LinesAskOnce :
    {T : Type 0} → (T → Exchange → T → Type 0) → (T → List (List ℕ)) → Type 0
LinesAskOnce {T} says asked =
    (old new : Desk T) (lines : List (Option (List ℕ))) (text : List ℕ) (on : Bool)
    → Answers (DeskSays says) old lines text on new → AsksOnce asked old new

-- ---- a whole life

-- What is kept is just what was broadcast since the member began, in order, each value under an id
-- of its own. The first of these values were broadcast before this teller, and the others through
-- it.
pub record KeepsAll {T : Type 0} (asked : T → List (List ℕ)) (before : List (List ℕ))
    (desk : Desk T) : Type 0 where
  pub values : map (λ k. k.value) desk.kept ≡ before ++ asked desk.teller
  pub free : AreUnderFreeIds [] desk.kept

abbrev pub LinesKeepAll :
    {T : Type 0} → (T → Exchange → T → Type 0) → (T → List (List ℕ)) → Type 0
LinesKeepAll {T} says asked =
    (before : List (List ℕ)) (old new : Desk T) (lines : List (Option (List ℕ))) (text : List ℕ)
    (on : Bool)
    → Answers (DeskSays says) old lines text on new → KeepsAll asked before old
    → KeepsAll asked before new
