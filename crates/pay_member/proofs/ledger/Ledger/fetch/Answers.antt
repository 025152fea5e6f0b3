use Rattle.std.proofs.Common.{◌≡◌, ◌+◌, Some, arith, slice_get, sym, subst}
use Rattle.pay_member.specs.Ledger.{LedgerFields}
use Rattle.pay_member.proofs.Ledgers.{none_past, piece_more}
use Rattle.pay_member.proofs.ledger.Ledger.fetch.Goals as goal
use Rattle.pay_member.proofs.ledger.Ledger.fetch.Goals.{in-Some+in_ok-copy+in_ok-push, in_default}

pub loop-k-preserved : goal.loop-k-preserved
loop-k-preserved g c = elim c.match-sent.branch [
  | in-Some+in_ok-copy+in_ok-push w ↦ (
      let At : LedgerFields → Type 0 = λ l. slice_get l.channel.sent (c.args.from + c.loop-k.k) ≡ Some w.in-Some.body.now in
      let there : slice_get c.args.self.now.channel.sent (c.args.from + c.loop-k.k) ≡ Some w.in-Some.body.now = subst At c.self.view_is (sym w.in-Some.ensures) in
      cc (w.bodies-is, w.in_ok-push.ensures.items, w.in_ok-copy.ensures.value, c.loop-k.invariant, piece_more c.args.self.now.channel.sent c.args.from c.loop-k.k w.in-Some.body.now there))
  | in_default w ↦ (
      let past = none_past c.self.inside.channel.sent (c.args.from + c.loop-k.k) w.in_default.ensures in
      let len = c.sent_len.ensures in
      let left = c.saturating_sub-left.ensures in
      let end = c.min-k-end.ensures in
      let below = c.loop-k-test.true in
      absurd (omega arith))
]
