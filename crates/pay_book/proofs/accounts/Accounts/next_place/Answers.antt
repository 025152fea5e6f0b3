use Rattle.std.proofs.Common.{length, slice_index, ◌∙◌, arith}
use Rattle.pay_book.proofs.Entries.{value_to_come, place_is_in, next_place_is, place_is_low}
use Rattle.pay_book.proofs.accounts.Accounts.next_place.Goals as goal

pub at-requires : goal.at-requires
at-requires g c =
    let book = c.args.self.now in
    let at = c.place-place.ensures ∙ c.requires.book.placed.exact c.args.account c.requires.account in
    value_to_come (length book.opening) (g.S.Source.lists c.args.source.now) c.args.account (slice_index book.front c.args.account) c.place-place.result at c.requires.entry

pub place_after-requires-clause-entry : goal.place_after-requires-clause-entry
place_after-requires-clause-entry g c =
    let book = c.args.self.now in
    let at = c.place-place.ensures ∙ c.requires.book.placed.exact c.args.account c.requires.account in
    place_is_in (g.S.Source.lists c.args.source.now) c.args.account (slice_index book.front c.args.account) c.place-place.result c.at.result.now at c.at.ensures

pub place_after-requires-clause-value : goal.place_after-requires-clause-value
place_after-requires-clause-value g c =
    let book = c.args.self.now in
    let at = c.place-place.ensures ∙ c.requires.book.placed.exact c.args.account c.requires.account in
    let low = place_is_low (g.S.Source.lists c.args.source.now) c.args.account (slice_index book.front c.args.account) c.place-place.result at in
    omega (arith, low, c.requires.number)

pub returns : goal.returns
returns g c =
    let book = c.args.self.now in
    let at = c.place-place.ensures ∙ c.requires.book.placed.exact c.args.account c.requires.account in
    c.place_after.ensures ∙ next_place_is (g.S.Source.lists c.args.source.now) c.args.account (slice_index book.front c.args.account) c.place-place.result c.at.result.now at c.at.ensures
