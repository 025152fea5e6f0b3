use Rattle.std.proofs.Common.{◌≡◌, ◌≤◌, length, slice_index, rules}
use Rattle.std.specs.Prelude.{slice_get, Some}
use Rattle.pay_book.specs.Balance.{amount_of}
use Rattle.pay_book.specs.Book.{entries_for}
use Rattle.pay_book.proofs.Entries.{entries_of-within, entry-within}
use Rattle.pay_book.proofs.Conserving.{sum-balances}
use Rattle.std.proofs.lemmas.Option.{slice_get_within}
use Rattle.pay_book.proofs.OneStep.{IsBook-stepped, room_for_entry}
use Rattle.pay_book.proofs.accounts.Accounts.try_step.Goals as goal

pub next_place-place-requires-clause-number : goal.next_place-place-requires-clause-number
next_place-place-requires-clause-number g c =
    let old = c.args.self.now in
    let lists = g.S.Source.lists c.args.source.now in
    let there : slice_get (entries_for old lists c.args.account) (slice_index old.front c.args.account) ≡ Some c.in_ok-entry.entry = search rules in
    room_for_entry lists old c.args.account c.requires.countable c.requires.account (slice_get_within (entries_for old lists c.args.account) (slice_index old.front c.args.account) c.in_ok-entry.entry there)

pub pass-requires-clause-front : goal.pass-requires-clause-front
pass-requires-clause-front g c =
    let old = c.args.self.now in
    let lists = g.S.Source.lists c.args.source.now in
    let there : slice_get (entries_for old lists c.args.account) (slice_index old.front c.args.account) ≡ Some c.in_ok-entry.entry = search rules in
    room_for_entry lists old c.args.account c.requires.countable c.requires.account (slice_get_within (entries_for old lists c.args.account) (slice_index old.front c.args.account) c.in_ok-entry.entry there)

pub pass-requires-clause-payee : goal.pass-requires-clause-payee
pass-requires-clause-payee g c =
    let old = c.args.self.now in
    let there : slice_get (entries_for old (g.S.Source.lists c.args.source.now) c.args.account) (slice_index old.front c.args.account) ≡ Some c.in_ok-entry.entry = search rules in
    entry-within (length old.opening) (g.S.Source.lists c.args.source.now) c.args.account (slice_index old.front c.args.account) c.in_ok-entry.entry c.requires.account there

pub pass-requires-clause-total : goal.pass-requires-clause-total
pass-requires-clause-total g c =
    let old = c.args.self.now in
    let lists = g.S.Source.lists c.args.source.now in
    sum-balances old.opening (entries_for old lists) (slice_index old.front) old.balances (entries_of-within (length old.opening) lists) c.requires.book.are

pub returns-clause-book : goal.returns-clause-book
returns-clause-book g c =
    let old = c.args.self.now in
    let there : slice_get (entries_for old (g.S.Source.lists c.args.source.now) c.args.account) (slice_index old.front c.args.account) ≡ Some c.in_ok-entry.entry = search rules in
    let covered : amount_of c.in_ok-entry.entry ≤ slice_index old.balances c.args.account = search rules in
    IsBook-stepped (g.S.Source.lists c.args.source.now) old c.pass.new.self c.args.account c.in_ok-entry.entry c.next_place-place.result
    c.requires.book c.requires.account there covered c.next_place-place.ensures c.pass.ensures.opening c.pass.ensures.front c.pass.ensures.one_for_each c.pass.ensures.balances c.pass.ensures.places
