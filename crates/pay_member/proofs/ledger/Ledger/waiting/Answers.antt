use Rattle.std.proofs.Common.{length, subst, sym}
use Rattle.pay_channel.specs.State.{channel_lists}
use Rattle.pay_book.specs.Front.{AllGrow}
use Rattle.pay_member.specs.Ledger.{LedgerFields}
use Rattle.pay_member.proofs.ledger.Ledger.waiting.Goals as goal

pub waiting_excerpt-requires-clause-book : goal.waiting_excerpt-requires-clause-book
waiting_excerpt-requires-clause-book g c =
    let lists = g.S.Source.lists c.args.source.now in
    let At : LedgerFields → Type 0 = λ l. AllGrow (length l.book.opening) (channel_lists l.channel) lists in
    c.book_stays.ensures (channel_lists c.self.inside.channel) lists (g.B.Settle.shows c.self.inside.book) (subst At (sym c.self.view_is) c.requires.grown)
    c.self.invariant.settled.is
