-- A member before its first event, and why a start from a log fails.
use Rattle.std.specs.Prelude.{◌≡◌, ℕ, List, []}
use Rattle.pay_link.specs.Genesis.{GenesisFields}
use Rattle.pay_link.specs.Keys.{KeyFields}
use Rattle.pay_log.specs.Faults.{IsReadFault}
use Rattle.pay_log.specs.declared.fault.LogFault.{LogFault}
use Rattle.pay_log.specs.declared.fault.LogFault.TheVariants.{Forgotten}
use Rattle.pay_member.specs.declared.event.HistoryEntry.{HistoryEntry}
use Rattle.pay_member.specs.Events.{events}
use Rattle.pay_member.specs.Group.{group_in}
use Rattle.pay_member.specs.Member.{MemberFields}
use Rattle.pay_member.specs.Remembering.{HasForgotten}
use Rattle.pay_record.specs.Identity.{header_of, log_key_of}
use Rattle.pay_log.specs.Headers.{header_bytes}
use Rattle.pay_record.specs.Resuming.{IsLogOf}

-- a member before its first event
abbrev pub fresh_member : GenesisFields → KeyFields → MemberFields
fresh_member g k = record { genesis = g; keys = k; history = [] }

-- what a start may end with
abbrev pub IsRestartFault : LogFault → Type 0
IsRestartFault fault = (fault ≡ Forgotten → ⊥) → IsReadFault fault

-- A file is the log of a member that lost state.
pub record IsForgottenLog (g : GenesisFields) (k : KeyFields) (file : List ℕ) : Type 0 where
  pub history : List HistoryEntry
  pub ids : List ℕ
  pub len : ℕ
  pub ps : List (List ℕ)
  pub is :
      IsLogOf k (log_key_of k) (header_bytes (header_of g k)) file
      (record {
        member = record { genesis = g; keys = k; history = history };
        ids = ids;
        len = len;
      })
      ps
  pub forgot : HasForgotten (group_in g k.own) (events history)
