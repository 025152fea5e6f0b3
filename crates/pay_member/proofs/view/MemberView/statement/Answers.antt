use Rattle.std.proofs.Common.{◌≡◌, ℕ, List, slice_index, subst}
use Rattle.std.specs.Result.{IfOk}
use Rattle.pay_channel.specs.State.{channel_lists}
use Rattle.pay_channel.specs.History.{list_of}
use Rattle.pay_book.specs.Book.{Standing}
use Rattle.pay_book.specs.Statement.{statement_of}
use Rattle.pay_member.specs.Group.{group_in}
use Rattle.pay_member.specs.Events.{events}
use Rattle.pay_member.specs.Book.{book_after}
use Rattle.pay_member.specs.Member.{MemberFields}
use Rattle.pay_member.proofs.Ledgers.{lists_are, book_is}
use Rattle.pay_member.proofs.view.MemberView.statement.Goals as goal

pub returns : goal.returns
returns g c =
    let follow = c.a_channel_follows.ensures.lists in
    let own = c.self.inside.keys.now.own in
    let h = events c.self.inside.history.now in
    let Of : ℕ → (ℕ → List (List ℕ)) → List ℕ → Type 0 = λ n lists front. IfOk c.statement.result (λ lines. lines.items ≡ statement_of n lists (slice_index front) c.args.account) in
    let At : MemberFields → Type 0 = λ m. Of m.genesis.members (list_of (group_in m.genesis m.keys.own) (events m.history)) (book_after m.genesis m.keys.own (events m.history)).front in
    subst At c.self.view_is
    (subst (λ (b : Standing). Of c.self.inside.genesis.now.members (list_of (group_in c.self.inside.genesis.now own) h) b.front)
    (book_is follow c.settled_book_is_one.ensures c.self.inside.genesis.now own h c.self.inside.ledger.now c.self.invariant.tracks)
    (subst (λ lists. Of c.self.inside.genesis.now.members lists c.self.inside.ledger.now.book.front)
    (λ t a. lists_are follow c.self.inside.genesis.now own h c.self.inside.ledger.now c.self.invariant.tracks a t)
    (subst (λ n. Of n (channel_lists c.self.inside.ledger.now.channel) c.self.inside.ledger.now.book.front) c.members.ensures.value c.statement.ensures)))
