-- A replay of a member's history.
use Rattle.std.specs.Prelude.{◌≡◌, ℕ, ◌≤◌, List, length, slice_get, Option}
use Rattle.std.specs.Option.{option_map}
use Rattle.pay_member.specs.declared.event.Event.{Event}
use Rattle.pay_member.specs.declared.ledger.Lie.{Lie}
use Rattle.pay_member.specs.Ledger.{LedgerFields}
use Rattle.pay_member.specs.Member.{MemberFields, IsMember, back_at}

-- the member with this history, and how many entries were replayed
pub record ReplayFields : Type 0 where
  pub member : MemberFields
  pub taken : ℕ

-- the member as it was after these entries
abbrev pub member_replayed : ReplayFields → MemberFields
member_replayed r = back_at r.member r.taken

-- the event of the next entry, if there is one
abbrev pub next_event : ReplayFields → Option Event
next_event r = option_map (λ e. e.event) (slice_get r.member.history r.taken)

-- what is kept follows from the replayed entries
pub record IsReplay (r : ReplayFields) (ledger : LedgerFields) (fronts : List ℕ)
    (lies : List (Option Lie)) : Type 0 where
  pub within : r.taken ≤ length r.member.history
  pub is : IsMember (member_replayed r) ledger fronts lies
