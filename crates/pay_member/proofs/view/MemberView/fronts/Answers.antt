use Rattle.std.proofs.Common.{◌≡◌, subst}
use Rattle.std.specs.Result.{IfOk}
use Rattle.pay_book.specs.Book.{Standing}
use Rattle.pay_member.specs.Member.{MemberFields}
use Rattle.pay_member.specs.Events.{events}
use Rattle.pay_member.specs.Book.{book_after}
use Rattle.pay_member.proofs.Ledgers.{book_is}
use Rattle.pay_member.proofs.view.MemberView.fronts.Goals as goal

pub returns-clause-value : goal.returns-clause-value
returns-clause-value g c =
    let Of : Standing → Type 0 = λ b. IfOk c.fronts.result (λ fronts. fronts.items ≡ b.front) in
    let At : MemberFields → Type 0 = λ m. Of (book_after m.genesis m.keys.own (events m.history)) in
    subst At c.self.view_is
    (subst Of (book_is c.a_channel_follows.ensures.lists c.settled_book_is_one.ensures c.self.inside.genesis.now c.self.inside.keys.now.own (events c.self.inside.history.now) c.self.inside.ledger.now c.self.invariant.tracks) c.fronts.ensures.value)
