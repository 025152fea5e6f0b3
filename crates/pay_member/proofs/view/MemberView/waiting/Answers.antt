use Rattle.std.proofs.Common.{◌≡◌, length, subst}
use Rattle.std.specs.Result.{IfOk}
use Rattle.pay_channel.specs.State.{channel_lists}
use Rattle.pay_book.specs.Book.{Standing}
use Rattle.pay_book.specs.Excerpt.{waiting_excerpt}
use Rattle.pay_book.specs.Front.{AllGrow}
use Rattle.pay_member.specs.Events.{events}
use Rattle.pay_member.specs.Book.{book_after}
use Rattle.pay_member.specs.Member.{MemberFields}
use Rattle.pay_member.specs.Reading.{values_known}
use Rattle.pay_member.proofs.KnownLists.{known_grow}
use Rattle.pay_member.proofs.Ledgers.{book_is}
use Rattle.pay_member.proofs.view.MemberView.waiting.Goals as goal

pub waiting-requires-clause-grown : goal.waiting-requires-clause-grown
waiting-requires-clause-grown g c =
    let ledger = c.self.inside.ledger.now in
    let At : MemberFields → Type 0 = λ m. AllGrow (length ledger.book.opening) (channel_lists ledger.channel) (values_known m.genesis m.keys.own (events m.history)) in
    subst At c.self.view_is
    (λ a below. known_grow c.a_channel_follows.ensures.lists c.self.inside.genesis.now c.self.inside.keys.now.own (events c.self.inside.history.now) ledger c.self.invariant.tracks a)

pub returns : goal.returns
returns g c =
    let genesis = c.self.inside.genesis.now in
    let own = c.self.inside.keys.now.own in
    let h = events c.self.inside.history.now in
    let ledger = c.self.inside.ledger.now in
    let Of : Standing → MemberFields → Type 0 = λ book m. IfOk c.waiting.result (λ excerpt. excerpt ≡ waiting_excerpt book (values_known m.genesis m.keys.own (events m.history)) c.args.account) in
    let At : MemberFields → Type 0 = λ m. Of (book_after m.genesis m.keys.own (events m.history)) c.args.self.now in
    subst At c.self.view_is
    (subst (λ (b : Standing). Of b c.args.self.now) (book_is c.a_channel_follows.ensures.lists c.settled_book_is_one.ensures genesis own h ledger c.self.invariant.tracks) c.waiting.ensures)
