use Rattle.pay_world.proofs.laws.laws_of_books.Goals as goal

pub returns : goal.returns
returns c =
    record {
      settled_book_exists = c.settled_book_exists.ensures;
      settled_is_largest = c.settled_is_largest.ensures;
      nobody_owes = c.nobody_owes_once_settled.ensures;
      keeps_total = c.book_keeps_total.ensures;
      equal_books = c.equal_lists_equal_books.ensures;
      entries_grow = c.settled_entries_grow.ensures;
      entries_compare = c.settled_entries_compare.ensures;
      entries_were_asked = c.settled_entries_were_asked.ensures;
    }
