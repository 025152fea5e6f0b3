-- What a member can find out from its own history alone: whether it has lost state.
use Rattle.std.specs.Prelude.{◌≡◌, ◌≢◌, ℕ, Bool, true, false, List, slice_get, Some}
use Rattle.pay_echo.specs.Broadcast.{Group}
use Rattle.pay_channel.specs.History.{Event, list_of}
use Rattle.pay_channel.specs.Asked.{asked_values}
use Rattle.pay_channel.specs.Prefix.{IsPrefix}

-- At every moment, all values in the list of the member's own account had been submitted, in that
-- order.
-- page: `Remembers`, `HasForgotten`: at every moment of a history, the own account's list was a
--   prefix of the values submitted until then; or once it had a value under a number under which
--   this value hadn't been submitted
pub record Remembers (g : Group) (history : List Event) : Type 0 where
  pub each :
      (before : List Event) → IsPrefix before history
      → IsPrefix (list_of g before g.own) (asked_values before)

-- The contrary, with its evidence. At some moment the member's own list had a value under a number
-- under which this value hadn't been submitted. No later submission takes the evidence back.
pub record HasForgotten (g : Group) (history : List Event) : Type 0 where
  pub before : List Event
  pub earlier : IsPrefix before history
  pub seq : ℕ
  pub value : List ℕ
  pub listed : slice_get (list_of g before g.own) seq ≡ Some value
  pub unasked : slice_get (asked_values before) seq ≢ Some value

-- an answer says which of the two holds
pub record TellsForgetting (g : Group) (history : List Event) (answer : Bool) : Type 0 where
  pub remembers : answer ≡ false → Remembers g history
  pub forgot : answer ≡ true → HasForgotten g history
