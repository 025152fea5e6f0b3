use Rattle.pay_member.proofs.Histories.{book_is_settled, total_is_kept, nobody_owes, equal_books}
use Rattle.pay_member.proofs.laws.book_of_events.Goals as goal

pub returns : goal.returns
returns c =
    let settled = c.settled_book_exists.ensures in
    record {
      settled = book_is_settled settled;
      total = total_is_kept settled c.book_keeps_total.ensures;
      nobody_owes = nobody_owes c.nobody_owes_once_settled.ensures;
      equal = equal_books settled c.equal_lists_equal_books.ensures;
    }
