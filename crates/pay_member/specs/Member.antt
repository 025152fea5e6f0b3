-- What a member shows: a function of its genesis, its keys and its history.
use Rattle.std.specs.Prelude.{◌≡◌, ℕ, ◌<◌, List, [], ◌∷◌, ◌++◌, length, take, slice_index, Option}
use Rattle.pay_channel.specs.History as channel
use Rattle.pay_channel.specs.Taken.{next}
use Rattle.pay_link.specs.Genesis.{GenesisFields, IsGenesis}
use Rattle.pay_link.specs.Keys.{KeyFields, IsKeysOf}
use Rattle.pay_member.specs.declared.event.HistoryEntry.{HistoryEntry}
use Rattle.pay_member.specs.Events.{events}
use Rattle.pay_member.specs.Ledger.{LedgerFields, Tracks}
use Rattle.pay_member.specs.Legal.{Legal}
use Rattle.pay_member.specs.declared.ledger.Lie.{Lie}
use Rattle.pay_member.specs.Lies.{AreFound}
use Rattle.pay_member.specs.Group.{group_in}
use Rattle.pay_member.specs.Remembering.{TellsForgetting}

pub record MemberFields : Type 0 where
  pub genesis : GenesisFields
  pub keys : KeyFields
  pub history : List HistoryEntry

-- the member with one more entry
abbrev pub with_entry : MemberFields → HistoryEntry → MemberFields
with_entry m e = record m { history = m.history ++ e ∷ [] }

-- the member as it was after its first entries
abbrev pub back_at : MemberFields → ℕ → MemberFields
back_at m count = record m { history = take count m.history }

-- for each member the number that is next from it after these events
abbrev pub AreTurns : ℕ → List channel.Event → List ℕ → Type 0
AreTurns members before fronts = (p : ℕ) → p < members → slice_index fronts p ≡ next p before

-- What holds of every member, and of all that is read of one: its history is one that it can have,
-- and what is kept beside the history follows from it.
pub record IsMember (m : MemberFields) (ledger : LedgerFields) (fronts : List ℕ)
    (lies : List (Option Lie)) : Type 0 where
  pub genesis : IsGenesis m.genesis
  pub keys : IsKeysOf m.genesis m.keys
  pub legal : Legal m.genesis m.keys m.history
  pub tracks : Tracks m.genesis m.keys.own (events m.history) ledger
  pub tells :
      TellsForgetting (group_in m.genesis m.keys.own) (events m.history) ledger.has_forgotten
  pub one_for_each : length fronts ≡ m.genesis.members
  pub turns : AreTurns m.genesis.members (events m.history) fronts
  pub lies_found : AreFound m.genesis.members (events m.history) lies
