-- What is on the disk of a node's history.
use Rattle.std.specs.Prelude.{◌≡◌, ◌≤◌, ℕ, List, [], ◌++◌, length, drop}
use Rattle.pay_log.specs.declared.log.Log.{Log}
use Rattle.pay_member.specs.declared.event.HistoryEntry.{HistoryEntry}
use Rattle.pay_member.specs.Legal.{Legal}
use Rattle.pay_member.specs.Member.{MemberFields}
use Rattle.pay_node.specs.Nodes.{IsOwn, NodeFields}
use Rattle.pay_durable.specs.Following.{AllKnown, IsFollowing, IsFollowingSome}

-- A synced log has the entries that it had before, and after them all further entries of this
-- history.
pub record IsOnDisk {D : Type 0} (is_known : D → Type 0) (seen : D → List ℕ)
    (may_leave : D → List ℕ → Type 0)
    (history : List HistoryEntry) (log : Log D) : Type 0 where
  pub before : List HistoryEntry
  pub follows : IsFollowing is_known seen may_leave log [] (before ++ drop (length before) history)

-- The node's own member had some legal history, and a synced log has all of it that was missing
-- there.
pub record IsHistoryKept {D : Type 0} (is_known : D → Type 0) (seen : D → List ℕ)
    (may_leave : D → List ℕ → Type 0)
    (node : NodeFields) : Type 0 where
  pub member : MemberFields
  pub own : IsOwn node member
  pub legal : Legal member.genesis member.keys member.history
  pub on_disk :
      AllKnown is_known → ∥ ((log : Log D) × IsOnDisk is_known seen may_leave member.history log) ∥₁

-- A synced log has just `entries` entries, and nothing waits.
abbrev pub AreDurable :
    {D : Type 0} → (D → Type 0) → (D → List ℕ) → (D → List ℕ → Type 0) → ℕ → Type 0
AreDurable {D = D} is_known seen may_leave entries =
    AllKnown is_known
    → ∥ ((log : Log D) × IsFollowingSome is_known seen may_leave log [] entries) ∥₁

-- At least `entries` entries are said to be on the disk.
pub record HasAtLeast (has : ℕ → Type 0) (entries : ℕ) : Type 0 where
  pub count : ℕ
  pub enough : entries ≤ count
  pub durable : has count
