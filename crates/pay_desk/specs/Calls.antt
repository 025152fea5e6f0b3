-- The calls of a desk to its teller, with the replies.
use Rattle.std.specs.Prelude.{◌≡◌, ℕ, Bool, true, false, List, [], ◌∷◌, Result, Ok, Err}
use Rattle.pay_member.specs.declared.fault.QueryFault.{QueryFault}
use Rattle.pay_member.specs.declared.fault.QueryFault.TheVariants as query
use Rattle.pay_member.specs.declared.reading.Reading.{Reading}
use Rattle.pay_member.specs.declared.reading.Reading.TheVariants as reading
use Rattle.pay_member.specs.declared.event.Told.{Told}
use Rattle.pay_desk.specs.declared.fault.TellerFault.{TellerFault}
use Rattle.pay_desk.specs.declared.fault.TellerFault.TheVariants.{Memory, Spent, TooEarly}
use Rattle.pay_desk.specs.declared.fault.TellerFault.TheVariants.{Forgotten}
use Rattle.pay_desk.specs.declared.fault.ReadFault.{ReadFault}
use Rattle.pay_desk.specs.declared.fault.ReadFault.TheVariants as read

pub data Exchange : Type 0 where
  -- A value to broadcast, under an id: the number that it got, or why it got none
  Ask : ℕ → List ℕ → Result ℕ TellerFault → Exchange
  -- a query for the state of an account, which the member records
  Query : ℕ → Result Told QueryFault → Exchange
  -- what is read of the member
  Read : Reading → Exchange
  -- what was read and is withheld, since the member has lost state
  Withhold : Reading → Exchange

-- A call ended: it has a reply, or memory ran out and nothing changed. `says` relates a teller
-- before a call, what was said, and the teller after it.
abbrev pub Asks :
    {T : Type 0} → (T → Exchange → T → Type 0) → T → ℕ → List ℕ → Result ℕ TellerFault → T → Type 0
Asks says old id value (Ok seq) new = says old (Ask id value (Ok seq)) new
Asks says old id value (Err Memory) new = new ≡ old
Asks says old id value (Err Spent) new = says old (Ask id value (Err Spent)) new
Asks says old id value (Err TooEarly) new = says old (Ask id value (Err TooEarly)) new
Asks says old id value (Err Forgotten) new = says old (Ask id value (Err Forgotten)) new

abbrev pub Queries :
    {T : Type 0} → (T → Exchange → T → Type 0) → T → ℕ → Result Told QueryFault → T → Type 0
Queries says old account (Ok told) new = says old (Query account (Ok told)) new
Queries says old account (Err query.Memory) new = new ≡ old
Queries says old account (Err query.NoAccount) new =
    says old (Query account (Err query.NoAccount)) new

abbrev pub AsksQuestion :
    {T A : Type 0} → (T → Exchange → T → Type 0) → T → (A → Reading) → Result A ReadFault → T
    → Type 0
AsksQuestion says old asks (Ok answer) new = says old (Read (asks answer)) new
AsksQuestion says old asks (Err read.Memory) new = new ≡ old
AsksQuestion {T} {A} says old asks (Err read.Forgotten) new =
    (answer : A) × says old (Withhold (asks answer)) new

-- the values that a call broadcast
abbrev pub values_asked_by : Exchange → List (List ℕ)
values_asked_by (Ask id value (Ok seq)) = value ∷ []
values_asked_by (Ask id value (Err fault)) = []
values_asked_by (Query account answer) = []
values_asked_by (Read reading) = []
values_asked_by (Withhold reading) = []

-- what may be long, so that memory for its words may run out
abbrev pub is_long : Reading → Bool
is_long (reading.Sent from max bodies) = true
is_long (reading.State owner seq state) = false
is_long (reading.Statement account statement) = true
is_long (reading.Entries account from excerpt) = true
is_long (reading.Waiting account excerpt) = true
is_long (reading.Fronts counts) = false
is_long (reading.Forgetting says) = false
is_long (reading.LastLie peer lie) = false

abbrev pub reads_at_length : Exchange → Bool
reads_at_length (Ask id value answer) = false
reads_at_length (Query account answer) = false
reads_at_length (Read reading) = is_long reading
reads_at_length (Withhold reading) = false
