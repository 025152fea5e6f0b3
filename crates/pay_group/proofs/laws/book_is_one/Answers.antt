use Rattle.pay_group.proofs.OneBook.{no_book, one_book}
use Rattle.pay_group.proofs.laws.book_is_one.Goals as goal

pub returns : goal.returns
returns c = record { one = one_book c.list_or_split.ensures.one; none = no_book c.list_or_split.ensures.not_both }
