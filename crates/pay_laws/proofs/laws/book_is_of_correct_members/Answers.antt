use Rattle.pay_laws.proofs.Books.{of_correct_members, settled_by_all}
use Rattle.pay_laws.proofs.laws.book_is_of_correct_members.Goals as goal

pub returns : goal.returns
returns c = record {
  lists = of_correct_members c.book_is_vouched_for.ensures;
  settled = settled_by_all c.book_is_vouched_for.ensures c.settled_entries_grow.ensures c.lists_by_actions.ensures.stays
      c.lists_by_actions.ensures.equal;
}
