use Rattle.std.proofs.Common.{◌≡◌, ℕ, List, length, map, drop, take, ap, ◌∙◌}
use Rattle.pay_book.specs.declared.payment.Entry.{Entry}
use Rattle.pay_book.specs.declared.excerpts.TheConstants.{MOST_SHOWN}
use Rattle.pay_book.specs.Excerpt.{shown_among, waiting_of}
use Rattle.pay_book.specs.Statement.{numbered_entries_of}
use Rattle.pay_book.proofs.excerpts.waiting_excerpt.Goals as goal

pub returns : goal.returns
unfolding waiting_of
returns g c =
    let lists = g.S.Source.lists c.args.source.now in
    let book = g.B.Settle.shows c.args.book.now in
    let all : ℕ → List (ℕ × Entry) = λ n. numbered_entries_of n lists c.args.account in
    let entries : c.in_ok-entries.entries.items ≡ waiting_of book lists c.args.account =
    c.in_ok-entries.ensures
    ∙ ap (λ n. map (shown_among (lists c.args.account)) (take MOST_SHOWN (drop c.front-front.result (all n)))) c.requires.accounts
    ∙ ap (λ n. map (shown_among (lists c.args.account)) (take MOST_SHOWN (drop n (all (length book.opening))))) c.front-front.ensures in
    λ i. record { first = (c.from.ensures ∙ c.front-front.ensures) i; entries = entries i; balance = c.balance.ensures i }
