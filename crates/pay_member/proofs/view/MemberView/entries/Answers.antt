use Rattle.std.proofs.Common.{◌≡◌, ℕ, List, subst}
use Rattle.std.specs.Result.{IfOk}
use Rattle.pay_channel.specs.History.{list_of}
use Rattle.pay_book.specs.Book.{Standing}
use Rattle.pay_book.specs.Excerpt.{settled_excerpt}
use Rattle.pay_member.specs.Group.{group_in}
use Rattle.pay_member.specs.Events.{events}
use Rattle.pay_member.specs.Book.{book_after}
use Rattle.pay_member.specs.Member.{MemberFields}
use Rattle.pay_member.proofs.Ledgers.{lists_are, book_is}
use Rattle.pay_member.proofs.view.MemberView.entries.Goals as goal

pub returns : goal.returns
returns g c =
    let follow = c.a_channel_follows.ensures.lists in
    let genesis = c.self.inside.genesis.now in
    let own = c.self.inside.keys.now.own in
    let h = events c.self.inside.history.now in
    let ledger = c.self.inside.ledger.now in
    let Of : Standing → (ℕ → List (List ℕ)) → Type 0 = λ book lists. IfOk c.entries.result (λ excerpt. excerpt ≡ settled_excerpt book lists c.args.account c.args.from) in
    let At : MemberFields → Type 0 = λ m. Of (book_after m.genesis m.keys.own (events m.history)) (list_of (group_in m.genesis m.keys.own) (events m.history)) in
    subst At c.self.view_is
    (subst (λ (b : Standing). Of b (list_of (group_in genesis own) h)) (book_is follow c.settled_book_is_one.ensures genesis own h ledger c.self.invariant.tracks)
    (subst (λ lists. Of ledger.book lists) (λ t a. lists_are follow genesis own h ledger c.self.invariant.tracks a t) c.entries.ensures))
