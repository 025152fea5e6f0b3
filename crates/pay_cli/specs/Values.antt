-- What `check` says about a frame's value, if that is requested: what each of its entries pays.
use Rattle.std.specs.Prelude.{ℕ, Bool, List, [], ◌++◌, length, decimal, codes, if◌then◌else◌}
use Rattle.std.specs.List.{flat_map}
use Rattle.pay_frame.specs.declared.body.Kind.{Kind}
use Rattle.pay_frame.specs.declared.body.Kind.TheVariants.{Send, Echo, Ready, Want}
use Rattle.pay_frame.specs.Frame.{FrameFields}
use Rattle.pay_link.specs.Keys.{KeyFields}
use Rattle.pay_book.specs.declared.payment.Entry.{Entry}
use Rattle.pay_book.specs.declared.payment.Entry.TheVariants.{Pay, Void}
use Rattle.pay_book.specs.Payment.{entries_in}
use Rattle.pay_cli.specs.declared.check.Checker.{Checker}

-- the member that judges frames, and whether a line says what their values pay
pub record CheckerFields : Type 0 where
  pub keys : KeyFields
  pub tells_values : Bool

abbrev pub checks : KeyFields → Bool → CheckerFields
checks keys tells_values = record { keys = keys; tells_values = tells_values }

abbrev pub checker_of : Checker → CheckerFields
checker_of q = checks q.keys.now q.tells_values

-- ` PAYEE AMOUNT`, or ` void` if nothing moves
unfoldable pub payee_and_amount : Entry → List ℕ
payee_and_amount (Pay payee amount) = codes " " ++ decimal payee ++ codes " " ++ decimal amount
payee_and_amount Void = codes " void"

-- `  pays PAYEE AMOUNT ..`, for each entry of a value in the list of this owner
abbrev pub pays_line : ℕ → ℕ → List ℕ → List ℕ
pays_line accounts owner value =
    codes "  pays" ++ flat_map payee_and_amount (entries_in accounts owner value) ++ codes "\n"

-- a WANT has no value
abbrev pub pays_line_of : Kind → ℕ → ℕ → List ℕ → List ℕ
pays_line_of Want accounts owner value = []
pays_line_of Send accounts owner value = pays_line accounts owner value
pays_line_of Echo accounts owner value = pays_line accounts owner value
pays_line_of Ready accounts owner value = pays_line accounts owner value

-- the line of a value, if it is requested
unfoldable pub told_line : CheckerFields → Kind → ℕ → List ℕ → List ℕ
told_line q kind owner value =
    if q.tells_values then pays_line_of kind (length q.keys.keys) owner value else []

-- the line of a frame's value
abbrev pub value_line : CheckerFields → FrameFields → List ℕ
value_line q f = told_line q f.body.kind f.body.owner f.body.value
