-- A replayed history: whether a member can have it, and otherwise the first entry that it can't
-- have.
use Rattle.std.specs.Prelude.{◌≡◌, ℕ, List, take, slice_get, Some, ⊤}
use Rattle.pay_link.specs.Genesis.{GenesisFields}
use Rattle.pay_link.specs.Keys.{KeyFields}
use Rattle.pay_member.specs.declared.event.HistoryEntry.{HistoryEntry}
use Rattle.pay_member.specs.Events.{events}
use Rattle.pay_member.specs.Legal.{IsOwed, Legal}
use Rattle.pay_audit.specs.declared.replaying.ReplayFault.{ReplayFault}
use Rattle.pay_audit.specs.declared.replaying.ReplayFault.TheVariants as replay

-- the entries before this place are a member's, and the entry at it isn't one after them
pub record IsFirstIllegal (g : GenesisFields) (k : KeyFields) (history : List HistoryEntry)
    (place : ℕ) : Type 0 where
  pub entry : HistoryEntry
  pub at : slice_get history place ≡ Some entry
  pub before : Legal g k (take place history)
  pub not_owed : IsOwed g k (events (take place history)) entry → ⊥

-- what a fault says about a history
abbrev pub IsCause : GenesisFields → KeyFields → List HistoryEntry → ReplayFault → Type 0
IsCause g k history replay.Memory = ⊤
IsCause g k history (replay.Illegal place) = IsFirstIllegal g k history place
