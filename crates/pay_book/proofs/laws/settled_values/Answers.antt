use Rattle.pay_book.proofs.Whole.{settled_book_tells_places, settled_places_grow, settled_values_begin_entries}
use Rattle.pay_book.proofs.laws.settled_values.Goals as goal

pub returns : goal.returns
returns c = record {
  told = settled_book_tells_places;
  grow = settled_places_grow;
  entries = settled_values_begin_entries;
}
