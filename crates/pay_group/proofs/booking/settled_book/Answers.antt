use Rattle.std.proofs.Common.{Bor, map, ap, sym, subst, ◌∙◌}
use Rattle.std.proofs.lemmas.Option.{same_Some}
use Rattle.pay_audit.specs.Export.{ExportFields}
use Rattle.pay_group.specs.Book.{AreOfGroup}
use Rattle.pay_group.proofs.BookLists.{all_short, book_lists, lists_are, no_lists}
use Rattle.pay_group.proofs.booking.settled_book.Goals as goal

pub export_of_lists-requires-clause-short : goal.export_of_lists-requires-clause-short
export_of_lists-requires-clause-short c =
    let exports = c.args.exports.now in
    let sources = c.as_slice.result.now in
    let lent = ap (map (λ (s : Bor ExportFields). s.now)) c.as_slice.ensures.value ∙ c.in_ok-sources.ensures.lent in
    all_short c.backed_is_listed.ensures exports c.in_ok-sources.ensures.limits c.faults.result c.in-Ok.lists
    (lists_are exports sources c.faults.result c.in-Ok.lists lent c.in-Ok.ensures.lists)

pub returns-in-Ok-clause-book : goal.returns-in-Ok-clause-book
returns-in-Ok-clause-book c =
    let exports = c.args.exports.now in
    let sources = c.as_slice.result.now in
    let lent = ap (map (λ (s : Bor ExportFields). s.now)) c.as_slice.ensures.value ∙ c.in_ok-sources.ensures.lent in
    let e = c.in_ok-export_of_lists-in-Ok.field-0 in
    let made = c.in_ok-export_of_lists-in-Ok.ensures in
    let lists = lists_are exports sources c.faults.result c.in-Ok.lists lent c.in-Ok.ensures.lists in
    record {
      exports_are = subst (λ g. AreOfGroup g exports) (sym (made.genesis ∙ c.genesis-genesis.ensures)) c.requires.are;
      is_export = made.limits;
      member = λ d at. made.member ∙ c.member-member.ensures.value ∙ ap (λ (x : ExportFields). x.member) (same_Some c.args.first.now d (sym c.requires.first ∙ at));
      lists = book_lists exports c.faults.result c.members.result c.in-Ok.lists e c.genesis-genesis.result.now made.genesis c.faults.ensures.value c.members.ensures.value
          c.in-Ok.ensures.count lists made.lists;
      book = made.book;
    }

pub returns-clause-fault : goal.returns-clause-fault
returns-clause-fault c =
    let exports = c.args.exports.now in
    let sources = c.as_slice.result.now in
    let lent = ap (map (λ (s : Bor ExportFields). s.now)) c.as_slice.ensures.value ∙ c.in_ok-sources.ensures.lent in
    let of = subst (λ g. AreOfGroup g exports) (sym c.genesis-genesis.ensures) c.requires.are in
    rw c.split_by.ensures (no_lists exports sources c.genesis-genesis.result.now c.faults.result c.members.result c.in-Err.fault of lent
    c.faults.ensures.value c.members.ensures.value c.in-Err.ensures.split c.in-Err.ensures.before)
