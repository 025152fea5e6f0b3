-- When all seats of a node agree with its member's history.
use Rattle.std.specs.Prelude.{◌≡◌, ◌≢◌, ℕ, ◌<◌, ◌≤◌, ◌==◌, ◌&&◌, nat_le, nat_lt, Bool, true}
use Rattle.std.specs.Prelude.{false, if◌then◌else◌, List, [], ◌∷◌, Option, Some, None}
use Rattle.std.specs.List.{All, filter}
use Rattle.pay_member.specs.Member.{MemberFields}
use Rattle.pay_node.specs.declared.closing.CloseFault.{CloseFault}
use Rattle.pay_node.specs.declared.closing.CloseFault.TheVariants.{Memory, Mismatch}
use Rattle.pay_node.specs.Nodes.{NodeFields, base_of}
use Rattle.pay_node.specs.Seats.{HasItsEntries, SeatFields, Right, since}

abbrev pub seats_with : ℕ → List SeatFields → List SeatFields
seats_with stamp seats = filter (λ s. s.stamp == stamp) seats

-- one seat has the stamp, and the history from the base on is consistent with it
pub record HasConsistentSeat (m : MemberFields) (base stamp : ℕ) (seats : List SeatFields)
    : Type 0 where
  pub seat : SeatFields
  pub one : seats_with stamp seats ≡ seat ∷ []
  pub right : Right m base seat

-- no seat has the stamp, and no entry from the base on
pub record IsUnused (m : MemberFields) (base stamp : ℕ) (seats : List SeatFields) : Type 0 where
  pub unseated : All (λ s. s.stamp ≢ stamp) seats
  pub nowhere : All (λ e. e.stamp ≢ stamp) (since base m).history

-- one seat has the stamp, and its receipts tell as many entries as the history has under it from
-- the base on
pub record IsCounted (m : MemberFields) (base stamp : ℕ) (seats : List SeatFields) : Type 0 where
  pub seat : SeatFields
  pub one : seats_with stamp seats ≡ seat ∷ []
  pub counted : HasItsEntries m base seat

-- ---- all stamps

-- `holds` is true of a stamp below the number of seats. Any other stamp is nobody's.
pub record IsReconciledBy (holds : ℕ → Type 0) (m : MemberFields) (base count : ℕ)
    (seats : List SeatFields) (stamp : ℕ) : Type 0 where
  pub own : stamp < count → holds stamp
  pub other : count ≤ stamp → IsUnused m base stamp seats

-- the least stamp that isn't reconciled in this way
pub record IsLeastBy (holds : ℕ → Type 0) (m : MemberFields) (base count : ℕ)
    (seats : List SeatFields) (stamp : ℕ) : Type 0 where
  pub wrong : ¬ (IsReconciledBy holds m base count seats stamp)
  pub least : (lower : ℕ) → lower < stamp → IsReconciledBy holds m base count seats lower

-- what a judge of all stamps finds
abbrev pub IsVerdictBy : (ℕ → Type 0) → MemberFields → ℕ → ℕ → List SeatFields → Option ℕ → Type 0
IsVerdictBy holds m base count seats None =
    (stamp : ℕ) → IsReconciledBy holds m base count seats stamp
IsVerdictBy holds m base count seats (Some stamp) = IsLeastBy holds m base count seats stamp

-- each seat's stamp belongs to one seat, which is right
-- page: `AllReconciled`: a stamp below the number of seats belongs to just one seat, which is
--   right; any other stamp belongs to no seat and no entry
abbrev pub AllReconciled : MemberFields → ℕ → ℕ → List SeatFields → Type 0
AllReconciled m base count seats =
    (stamp : ℕ) → IsReconciledBy (λ s. HasConsistentSeat m base s seats) m base count seats stamp

abbrev pub IsLeastWrong : MemberFields → ℕ → ℕ → List SeatFields → ℕ → Type 0
IsLeastWrong m base count seats stamp =
    IsLeastBy (λ s. HasConsistentSeat m base s seats) m base count seats stamp

abbrev pub IsVerdict : MemberFields → ℕ → ℕ → List SeatFields → Option ℕ → Type 0
IsVerdict m base count seats found =
    IsVerdictBy (λ s. HasConsistentSeat m base s seats) m base count seats found

-- each seat's stamp belongs to one seat, which counts its entries
abbrev pub AllCounted : MemberFields → ℕ → ℕ → List SeatFields → Type 0
AllCounted m base count seats =
    (stamp : ℕ) → IsReconciledBy (λ s. IsCounted m base s seats) m base count seats stamp

abbrev pub IsLeastUncounted : MemberFields → ℕ → ℕ → List SeatFields → ℕ → Type 0
IsLeastUncounted m base count seats stamp =
    IsLeastBy (λ s. IsCounted m base s seats) m base count seats stamp

abbrev pub IsCount : MemberFields → ℕ → ℕ → List SeatFields → Option ℕ → Type 0
IsCount m base count seats found =
    IsVerdictBy (λ s. IsCounted m base s seats) m base count seats found

-- The reason why a shutdown check fails: this stamp is the least that isn't reconciled. If memory
-- ran out, nothing is known about the receipts, except whether all entries are counted.
abbrev pub IsCloseFault : NodeFields → MemberFields → List SeatFields → CloseFault → Type 0
IsCloseFault n m seats (Memory uncounted) = IsCount m (base_of n) n.seats seats uncounted
IsCloseFault n m seats (Mismatch stamp) = IsLeastWrong m (base_of n) n.seats seats stamp

-- ---- how the check finds it

-- the stamp was found or not before these seats: just one seat has it
abbrev pub HasConsistentSeatFrom : MemberFields → ℕ → ℕ → Bool → List SeatFields → Type 0
HasConsistentSeatFrom m base stamp true seats = seats_with stamp seats ≡ []
HasConsistentSeatFrom m base stamp false seats = HasConsistentSeat m base stamp seats

-- the counts of entries under the stamp alone
abbrev pub IsCountedFrom : MemberFields → ℕ → ℕ → Bool → List SeatFields → Type 0
IsCountedFrom m base stamp true seats = seats_with stamp seats ≡ []
IsCountedFrom m base stamp false seats = IsCounted m base stamp seats

-- the least stamp from a number on, up to now and after one more
abbrev pub lesser : ℕ → Option ℕ → ℕ → Option ℕ
lesser count None stamp = if nat_le count stamp then Some stamp else None
lesser count (Some least) stamp =
    if nat_le count stamp && nat_lt stamp least then Some stamp else Some least
