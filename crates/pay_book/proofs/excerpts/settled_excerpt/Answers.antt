use Rattle.std.proofs.Common.{◌≡◌, ◌-◌, ◌<◌, ℕ, List, length, map, drop, take, min, slice_index, ap, ◌∙◌, arith}
use Rattle.pay_book.specs.declared.payment.Entry.{Entry}
use Rattle.pay_book.specs.declared.excerpts.TheConstants.{MOST_SHOWN}
use Rattle.pay_book.specs.Excerpt.{settled_from, shown_among}
use Rattle.pay_book.specs.Places.{Place}
use Rattle.pay_book.specs.Statement.{numbered_entries_of}
use Rattle.pay_book.proofs.Pieces.{piece_to}
use Rattle.pay_book.proofs.Placing.{book_place-within}
use Rattle.pay_book.proofs.excerpts.settled_excerpt.Goals as goal

pub place_before-place-requires-clause-within : goal.place_before-place-requires-clause-within
place_before-place-requires-clause-within g c =
    let lists = g.S.Source.lists c.args.source.now in
    let book = g.B.Settle.shows c.args.book.now in
    let below : c.args.account < length book.opening = omega (arith, c.requires.account, c.requires.accounts) in
    let within = book_place-within lists book c.args.account c.requires.book below in
    let same = ap (λ (p : Place). p.0) c.place.ensures in
    omega arith

pub returns : goal.returns
unfolding settled_from
returns g c =
    let lists = g.S.Source.lists c.args.source.now in
    let book = g.B.Settle.shows c.args.book.now in
    let front = slice_index book.front c.args.account in
    let all : ℕ → List (ℕ × Entry) = λ n. numbered_entries_of n lists c.args.account in
    let first : c.min-first.result ≡ min c.args.from front = omega (arith, c.min-first.ensures, c.from.ensures, c.front-front.ensures) in
    let shown : c.min-shown.result ≡ min (front - c.min-first.result) MOST_SHOWN = omega (arith, c.min-shown.ensures, c.front-front.ensures) in
    let entries : c.in_ok-entries.entries.items ≡ settled_from book lists c.args.account c.args.from =
    c.in_ok-entries.ensures
    ∙ ap (λ n. map (shown_among (lists c.args.account)) (take c.min-shown.result (drop c.min-first.result (all n)))) c.requires.accounts
    ∙ ap (map (shown_among (lists c.args.account)))
    (piece_to (all (length book.opening)) c.args.from front MOST_SHOWN c.min-first.result c.min-shown.result first shown) in
    λ i. record { first = c.args.from; entries = entries i; balance = c.balance.ensures i }
