use Rattle.std.proofs.Common.{◌≡◌, ◌<◌, ℕ, List, length, slice_index, take, arith, ap, subst, ◌∙◌}
use Rattle.pay_member.specs.Ledger.{LedgerFields, IsLedger}
use Rattle.pay_member.proofs.Ledgers.{front_more, front_whole}
use Rattle.pay_member.proofs.ledger.Ledger.fronts.Goals as goal

pub loop-account-preserved : goal.loop-account-preserved
loop-account-preserved g c =
    let l : LedgerFields = c.args.self.now in
    let sound : IsLedger l = subst IsLedger c.self.view_is c.self.invariant in
    let At : LedgerFields → Type 0 = λ m. c.front.result ≡ slice_index m.book.front c.loop-account.account in
    let front : c.front.result ≡ slice_index l.book.front c.loop-account.account = subst At c.self.view_is c.front.ensures in
    let account : c.loop-account.account < length l.book.opening = omega arith in
    cc (c.in_ok-push.ensures.items, c.loop-account.invariant, front_more l c.loop-account.account c.front.result sound account front)

-- all fronts are there
whole : (l : LedgerFields) (fronts : List ℕ) (accounts : ℕ) → IsLedger l → accounts ≡ length l.book.opening
    → fronts ≡ take accounts l.book.front → fronts ≡ l.book.front
whole l fronts accounts sound all is = is ∙ front_whole l accounts sound all

pub returns-clause-value : goal.returns-clause-value
returns-clause-value g c =
    let l : LedgerFields = c.args.self.now in
    let sound : IsLedger l = subst IsLedger c.self.view_is c.self.invariant in
    whole l c.loop-account.fronts.items c.loop-account.account sound (omega arith) c.loop-account.invariant

pub returns-clause-few : goal.returns-clause-few
returns-clause-few g c =
    let l : LedgerFields = c.args.self.now in
    let sound : IsLedger l = subst IsLedger c.self.view_is c.self.invariant in
    let is : c.loop-account.fronts.items ≡ l.book.front =
    whole l c.loop-account.fronts.items c.loop-account.account sound (omega arith) c.loop-account.invariant in
    omega (arith, ap length is, sound.settled.is.one_for_each, sound.accounts, sound.few)
