use Rattle.std.proofs.Common.{◌≡◌, ap, ◌∙◌, subst}
use Rattle.std.specs.List.{slice_index}
use Rattle.pay_book.specs.Book.{Standing}
use Rattle.pay_member.specs.Member.{MemberFields}
use Rattle.pay_member.specs.Events.{events}
use Rattle.pay_member.specs.Book.{book_after}
use Rattle.pay_member.proofs.Ledgers.{book_is}
use Rattle.pay_member.proofs.view.MemberView.balance.Goals as goal

pub returns : goal.returns
returns g c =
    let At : MemberFields → Type 0 = λ m. c.balance.result ≡ slice_index (book_after m.genesis m.keys.own (events m.history)).balances c.args.account in
    subst At c.self.view_is
    (c.balance.ensures ∙ ap (λ (b : Standing). slice_index b.balances c.args.account)
    (book_is c.a_channel_follows.ensures.lists c.settled_book_is_one.ensures c.self.inside.genesis.now c.self.inside.keys.now.own (events c.self.inside.history.now) c.self.inside.ledger.now c.self.invariant.tracks))
