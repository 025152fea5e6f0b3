-- What a verdict says about exports as a whole, in terms of the ledger and of lists. It is proved
-- as a public law that the verdict of any exports says this.
use Rattle.std.specs.Prelude.{◌≡◌, ◌≢◌, ◌↔◌, ℕ, ◌<◌, pos, List, slice_get, slice_index, Some}
use Rattle.pay_book.specs.Balance.{balance_at}
use Rattle.pay_book.specs.Front.{IsLargest}
use Rattle.pay_audit.specs.Export.{ExportFields, IsExport, lists_of}
use Rattle.pay_audit.specs.Laws.{AgreeWith, Agreeing, HasRightBalances, HasRightFront, logs_of}
use Rattle.pay_audit.specs.Verdict.{verdict_of}
use Rattle.pay_audit.specs.declared.auditing.Verdict.{Verdict}
use Rattle.pay_audit.specs.declared.auditing.Verdict.TheVariants.{Clean, OtherGenesis, WrongFront}
use Rattle.pay_audit.specs.declared.auditing.Verdict.TheVariants.{WrongBalance, Fork}

-- ---- statements about each export, about those before a place, about each two

abbrev pub Each : (ExportFields → Type 0) → List ExportFields → Type 0
Each Is exports = (x : ℕ) (e : ExportFields) → slice_get exports x ≡ Some e → Is e

abbrev pub EachBefore : ℕ → (ExportFields → Type 0) → List ExportFields → Type 0
EachBefore place Is exports =
    (x : ℕ) (e : ExportFields) → x < place → slice_get exports x ≡ Some e → Is e

abbrev pub EachTwo : (ExportFields → ExportFields → Type 0) → List ExportFields → Type 0
EachTwo Are exports =
    (x y : ℕ) (one other : ExportFields)
    → slice_get exports x ≡ Some one → slice_get exports y ≡ Some other → Are one other

abbrev pub BeginAlike : ExportFields → ExportFields → Type 0
BeginAlike one other = one.genesis ≡ other.genesis

-- ---- nothing is wrong

pub record IsClean (exports : List ExportFields) : Type 0 where
  pub geneses : EachTwo BeginAlike exports
  pub fronts : Each HasRightFront exports
  pub balances : Each HasRightBalances exports
  pub lists : EachTwo AgreeWith exports

-- ---- the least case of each kind, if there is none of an earlier kind

-- export x is the first that has another genesis than export 0
pub record IsFirstOther (exports : List ExportFields) (x : ℕ) : Type 0 where
  pub first : ExportFields
  pub export : ExportFields
  pub at_first : slice_get exports 0 ≡ Some first
  pub at : slice_get exports x ≡ Some export
  pub other : first.genesis ≢ export.genesis
  pub before : EachBefore x (BeginAlike first) exports

-- the export's front of this account is that of the largest front
abbrev pub IsFrontRight : ExportFields → ℕ → Type 0
IsFrontRight e account =
    (front : ℕ → ℕ) → IsLargest e.genesis.opening (logs_of e) front
    → slice_index e.front account ≡ front account

pub record IsFirstWrongFrontOf (e : ExportFields) (account : ℕ) : Type 0 where
  pub known : account < e.genesis.members
  pub wrong : IsFrontRight e account → ⊥
  pub before : (a : ℕ) → a < account → IsFrontRight e a

pub record IsFirstWrongFront (exports : List ExportFields) (x account : ℕ) : Type 0 where
  pub geneses : EachTwo BeginAlike exports
  pub export : ExportFields
  pub at : slice_get exports x ≡ Some export
  pub wrong : IsFirstWrongFrontOf export account
  pub before : EachBefore x HasRightFront exports

-- the export's balance of this account is the one at the export's own front
abbrev pub IsBalanceRight : ExportFields → ℕ → Type 0
IsBalanceRight e account =
    pos (slice_index e.balances account)
    ≡ balance_at e.genesis.opening (logs_of e) (slice_index e.front) account

pub record IsFirstWrongBalanceOf (e : ExportFields) (account : ℕ) : Type 0 where
  pub known : account < e.genesis.members
  pub wrong : IsBalanceRight e account → ⊥
  pub before : (a : ℕ) → a < account → IsBalanceRight e a

pub record IsFirstWrongBalance (exports : List ExportFields) (x account : ℕ) : Type 0 where
  pub geneses : EachTwo BeginAlike exports
  pub fronts : Each HasRightFront exports
  pub export : ExportFields
  pub at : slice_get exports x ≡ Some export
  pub wrong : IsFirstWrongBalanceOf export account
  pub before : EachBefore x HasRightBalances exports

-- two lists have different values at this place, and no different values before it
pub record IsFirstDifference (one other : List (List ℕ)) (place : ℕ) : Type 0 where
  pub value : List ℕ
  pub against : List ℕ
  pub at_one : slice_get one place ≡ Some value
  pub at_other : slice_get other place ≡ Some against
  pub differ : value ≢ against
  pub before :
      (s : ℕ) (v w : List ℕ) → s < place → slice_get one s ≡ Some v → slice_get other s ≡ Some w
      → v ≡ w

pub record IsFirstForkOf (one other : ExportFields) (owner seq : ℕ) : Type 0 where
  pub difference : IsFirstDifference (lists_of one owner) (lists_of other owner) seq
  pub before : (a : ℕ) → a < owner → Agreeing (lists_of one a) (lists_of other a)

-- exports x and y fork; x agrees with those between them, and each before x with all after it
pub record IsFirstFork (exports : List ExportFields) (x y owner seq : ℕ) : Type 0 where
  pub geneses : EachTwo BeginAlike exports
  pub fronts : Each HasRightFront exports
  pub balances : Each HasRightBalances exports
  pub one : ExportFields
  pub other : ExportFields
  pub order : x < y
  pub at_one : slice_get exports x ≡ Some one
  pub at_other : slice_get exports y ≡ Some other
  pub fork : IsFirstForkOf one other owner seq
  pub between :
      (z : ℕ) (e : ExportFields) → x < z → z < y → slice_get exports z ≡ Some e → AgreeWith one e
  pub earlier :
      (u z : ℕ) (d e : ExportFields) → u < x → u < z
      → slice_get exports u ≡ Some d → slice_get exports z ≡ Some e → AgreeWith d e

-- ---- all that a verdict says

abbrev pub IsSaid : List ExportFields → Verdict → Type 0
IsSaid exports Clean = IsClean exports
IsSaid exports (OtherGenesis x) = IsFirstOther exports x
IsSaid exports (WrongFront x account) = IsFirstWrongFront exports x account
IsSaid exports (WrongBalance x account) = IsFirstWrongBalance exports x account
IsSaid exports (Fork x y owner seq) = IsFirstFork exports x y owner seq

-- the verdict of exports is true
abbrev pub VerdictIsSaid : Type 0
VerdictIsSaid =
    (exports : List ExportFields) → Each IsExport exports → IsSaid exports (verdict_of exports)

-- the verdict is Clean exactly if nothing is wrong
abbrev pub CleanIsJudged : Type 0
CleanIsJudged =
    (exports : List ExportFields) → Each IsExport exports
    → (verdict_of exports ≡ Clean) ↔ IsClean exports
