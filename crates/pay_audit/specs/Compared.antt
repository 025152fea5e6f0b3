-- What is known about exports with lists that were compared one after the other. This is the
-- longest lists of the first exports, which have no fork, and the lengths of the lists of each of
-- these. For each later export it is the places at which its lists differ.
use Rattle.std.specs.Prelude.{◌≡◌, ℕ, ◌≤◌, nat_lt, List, [], ◌∷◌, ◌++◌, length, map, Option, Some}
use Rattle.std.specs.Prelude.{None, option_and_then, option_map, if◌then◌else◌}
use Rattle.std.specs.List.{zip}
use Rattle.pay_channel.specs.Prefix.{IsPrefix}
use Rattle.pay_audit.specs.Export.{ExportFields, list_in, lists_of}
use Rattle.pay_audit.specs.Laws.{Agreeing}
use Rattle.pay_audit.specs.Said.{Each}
use Rattle.pay_audit.specs.Verdict.{first_from, fork_place}
use Rattle.pay_audit.specs.declared.auditing.Verdict.{Verdict}
use Rattle.pay_audit.specs.declared.auditing.Verdict.TheVariants.{Fork}

-- the longer of two lists
abbrev pub longer : List (List ℕ) → List (List ℕ) → List (List ℕ)
longer one other = if nat_lt (length one) (length other) then other else one

-- Each export's list of this account is a prefix of this list, and what agrees with each of them
-- agrees with this list.
pub record IsLongest (exports : List ExportFields) (account : ℕ) (list : List (List ℕ))
    : Type 0 where
  pub begins : Each (λ e. IsPrefix (lists_of e account) list) exports
  pub agrees :
      (other : List (List ℕ)) → Each (λ e. Agreeing (lists_of e account) other) exports
      → Agreeing list other

-- the lengths of all accounts' lists
abbrev pub lengths_of : List (List (List ℕ)) → List ℕ
lengths_of lists = map (λ l. length l) lists

-- the place at which each account's list first differs from the longest, if it does
abbrev pub differences_of : List (List (List ℕ)) → List (List (List ℕ)) → List (Option ℕ)
differences_of longest lists = map (λ p. fork_place p.0 p.1) (zip longest lists)

-- the first of these exports differs from the longest lists
abbrev pub FirstDiffers : List (List (List ℕ)) → List ExportFields → Type 0
FirstDiffers longest [] = Unit {0}
FirstDiffers longest (e ∷ es) =
    ((account : ℕ) → Agreeing (list_in longest account) (lists_of e account)) → ⊥

pub record HasCompared (exports : List ExportFields) (longest : List (List (List ℕ)))
    (lengths : List (List ℕ)) (differences : List (List (Option ℕ))) : Type 0 where
  pub agreeing : List ExportFields
  pub others : List ExportFields
  pub parts : exports ≡ agreeing ++ others
  pub are_longest : (account : ℕ) → IsLongest agreeing account (list_in longest account)
  pub accounts : Each (λ e. length e.lists ≤ length longest) agreeing
  pub are_lengths : lengths ≡ map (λ e. lengths_of e.lists) agreeing
  pub are_differences : differences ≡ map (λ e. differences_of longest e.lists) others
  pub differs : FirstDiffers longest others

-- ---- the first fork, from these numbers alone

-- this place, if a list of `count` values has it
abbrev pub place_if_within : ℕ → Option ℕ → Option ℕ
place_if_within count place = option_and_then (λ s. if nat_lt s count then Some s else None) place

abbrev pub fork_if : ℕ → ℕ → ℕ → ℕ × Option ℕ → Option Verdict
fork_if x y owner p = option_map (Fork x y owner) (place_if_within p.0 p.1)

-- export x, with lists of these lengths, against export y
unfoldable pub fork_by : ℕ → List ℕ → ℕ → List (Option ℕ) → Option Verdict
fork_by x lengths y differences = first_from (fork_if x y) 0 (zip lengths differences)

-- export x against those that differ, from export `first` on
abbrev pub fork_with : ℕ → List (List (Option ℕ)) → ℕ → List ℕ → Option Verdict
fork_with first differences x lengths = first_from (fork_by x lengths) first differences

abbrev pub fork_among : List (List ℕ) → List (List (Option ℕ)) → Option Verdict
fork_among lengths differences = first_from (fork_with (length lengths) differences) 0 lengths
