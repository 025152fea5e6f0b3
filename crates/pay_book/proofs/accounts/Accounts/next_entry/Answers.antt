use Rattle.std.proofs.Common.{length, slice_index, ap, ◌∙◌, sym, arith}
use Rattle.std.specs.Prelude.{slice_get}
use Rattle.pay_book.specs.Payment.{entries_in}
use Rattle.pay_book.proofs.Entries.{next_entry_is, next_entry_none, place_is_in}
use Rattle.pay_book.proofs.accounts.Accounts.next_entry.Goals as goal

pub entry_at-requires : goal.entry_at-requires
entry_at-requires g c =
    let book = c.args.self.now in
    let at = c.place-value.ensures ∙ c.requires.book.placed.exact c.args.account c.requires.account in
    place_is_in (g.S.Source.lists c.args.source.now) c.args.account (slice_index book.front c.args.account) c.place-value.result c.at.result.now at c.at.ensures

pub returns-then-value-length : goal.returns-then-value-length
returns-then-value-length g c =
    let book = c.args.self.now in
    let at = c.place-value.ensures ∙ c.requires.book.placed.exact c.args.account c.requires.account in
    let is = next_entry_is (length book.opening) (g.S.Source.lists c.args.source.now) c.args.account (slice_index book.front c.args.account) c.place-value.result c.at.result.now at c.at.ensures in
    sym (is ∙ ap (λ accounts. slice_get (entries_in accounts c.args.account c.at.result.now) c.place-value.result.1) (sym c.count.ensures) ∙ c.entry_at.ensures)

pub returns-else-value-length : goal.returns-else-value-length
returns-else-value-length g c =
    let book = c.args.self.now in
    let at = c.place-value.ensures ∙ c.requires.book.placed.exact c.args.account c.requires.account in
    sym (next_entry_none (length book.opening) (g.S.Source.lists c.args.source.now) c.args.account (slice_index book.front c.args.account) c.place-value.result at (omega (arith, c.length.ensures, c.if-value-length.false)))
