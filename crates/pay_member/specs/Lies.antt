-- What a member knows of its peers' protocol violations.
use Rattle.std.specs.Prelude.{◌≡◌, ℕ, ◌<◌, ◌≤◌, List, ◌∷◌, ◌++◌, length, slice_set}
use Rattle.std.specs.Prelude.{slice_index_or}
use Rattle.std.specs.Prelude.{Option, Some, None}
use Rattle.pay_frame.specs.Frame.{BodyFields}
use Rattle.pay_channel.specs.History.{Event, From, body_of}
use Rattle.pay_channel.specs.Lies.{IsLie}
use Rattle.pay_member.specs.declared.ledger.Lie.{Lie}

abbrev pub lie_of : BodyFields → Lie
lie_of body = record { kind = body.kind; owner = body.owner; seq = body.seq }

-- This protocol violation of p is in the history: what p sent at some place of it, after what came
-- from p before.
-- page: `HasTold`: a member's history has a protocol violation of p, judged by what had come from p
--   before it
pub record HasTold (history : List Event) (p : ℕ) (lie : Lie) : Type 0 where
  pub before : List Event
  pub value : List ℕ
  pub rest : List Event
  pub told : history ≡ before ++ From p (body_of lie.kind lie.owner lie.seq value) ∷ rest
  pub is : IsLie before p (body_of lie.kind lie.owner lie.seq value)

-- This is the last protocol violation of p in the history: none of p's stands after it.
pub record IsLastLie (history : List Event) (p : ℕ) (lie : Lie) : Type 0 where
  pub told : HasTold history p lie
  pub last :
      (other : Lie) (earlier : HasTold history p other)
      → length earlier.before ≤ length told.before

-- what is known of p: its last protocol violation, or that there is none
abbrev pub IsFound : List Event → ℕ → Option Lie → Type 0
IsFound history p None = (lie : Lie) → ¬ (HasTold history p lie)
IsFound history p (Some lie) = IsLastLie history p lie

-- what is known of each member
pub record AreFound (members : ℕ) (history : List Event) (lies : List (Option Lie)) : Type 0 where
  pub places : length lies ≡ members
  pub each : (p : ℕ) → p < members → IsFound history p (slice_index_or lies p None)

-- the list with a protocol violation of p, if there is one
abbrev pub with_lie : ℕ → Option Lie → List (Option Lie) → List (Option Lie)
with_lie p None lies = lies
with_lie p (Some lie) lies = slice_set lies p (Some lie)
