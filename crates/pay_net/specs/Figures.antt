-- What a running node shows about itself.
use Rattle.std.specs.Prelude.{◌≡◌, ◌<◌, ◌≢◌, ◌≤◌, ℕ, suc, length, slice_index}
use Rattle.std.specs.Prelude.{Bool, true, false, Option, Some, None}
use Rattle.pay_channel.specs.History.{out}
use Rattle.pay_member.specs.Book.{book_after}
use Rattle.pay_member.specs.Events.{events}
use Rattle.pay_member.specs.Group.{group_in}
use Rattle.pay_member.specs.Legal.{Legal}
use Rattle.pay_member.specs.Member.{MemberFields}
use Rattle.pay_member.specs.Reading.{state_of, waiting_shown}
use Rattle.pay_member.specs.declared.question.PaymentState.TheVariants.{Unknown}
use Rattle.pay_desk.specs.Words.{short_by}
use Rattle.pay_frame.specs.declared.limits.TheConstants.{SEQS}
use Rattle.pay_node.specs.Nodes.{IsOwn, NodeFields}
use Rattle.pay_net.specs.declared.watching.MemberFigures.{MemberFigures}
use Rattle.pay_net.specs.declared.contacts.News.{News}
use Rattle.pay_net.specs.declared.contacts.News.TheVariants.{GivenUp, Lied, Lost, Met, Unopened}

-- `used` numbers of the member's own account are used: the last of them is known, and the next
-- isn't.
pub record AreUsed (m : MemberFields) (used : ℕ) : Type 0 where
  pub few : used ≤ SEQS
  pub last :
      (seq : ℕ) → used ≡ suc seq
      → state_of m.genesis m.keys.own (events m.history) m.keys.own seq ≢ Unknown
  pub next :
      used < SEQS
      → state_of m.genesis m.keys.own (events m.history) m.keys.own used ≡ Unknown

-- The state of a member's ledger after its history, the length of the history, and what isn't
-- settled of its own account.
pub record AreFigures (m : MemberFields) (figures : MemberFigures) : Type 0 where
  pub fronts : figures.fronts.items ≡ (book_after m.genesis m.keys.own (events m.history)).front
  pub balance :
      figures.balance
      ≡ slice_index (book_after m.genesis m.keys.own (events m.history)).balances m.keys.own
  pub entries : figures.entries ≡ length m.history
  pub sent : figures.sent ≡ length (out (group_in m.genesis m.keys.own) (events m.history))
  pub used : AreUsed m figures.used
  pub waiting :
      figures.waiting
      ≡ length (waiting_shown m.genesis m.keys.own (events m.history) m.keys.own).entries
  pub short :
      figures.short
      ≡ short_by (waiting_shown m.genesis m.keys.own (events m.history) m.keys.own).balance
      (waiting_shown m.genesis m.keys.own (events m.history) m.keys.own).entries

-- The node's own member, with some legal history, had these metrics at one moment.
pub record AreFiguresOf (n : NodeFields) (figures : MemberFigures) : Type 0 where
  pub member : MemberFields
  pub own : IsOwn n member
  pub legal : Legal member.genesis member.keys member.history
  pub are : AreFigures member figures

-- ---- metrics of a peer

-- the peer is connected, if this was reported last
abbrev pub was_met_by : Option News → Bool
was_met_by None = false
was_met_by (Some Met) = true
was_met_by (Some Lost) = false
was_met_by (Some GivenUp) = false
was_met_by (Some (Lied lie)) = false
was_met_by (Some Unopened) = false

-- the peer was connected and isn't now, was abandoned, or sent a protocol violation
abbrev pub was_lost_by : Option News → Bool
was_lost_by None = false
was_lost_by (Some Met) = false
was_lost_by (Some Lost) = true
was_lost_by (Some GivenUp) = true
was_lost_by (Some (Lied lie)) = true
was_lost_by (Some Unopened) = false

-- the peer sent a protocol violation
abbrev pub has_lied_by : Option News → Bool
has_lied_by None = false
has_lied_by (Some Met) = false
has_lied_by (Some Lost) = false
has_lied_by (Some GivenUp) = false
has_lied_by (Some (Lied lie)) = true
has_lied_by (Some Unopened) = false
