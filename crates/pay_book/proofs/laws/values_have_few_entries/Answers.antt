use Rattle.pay_book.proofs.Entries.{length-entries_in-le}
use Rattle.pay_book.proofs.laws.values_have_few_entries.Goals as goal

pub returns : goal.returns
returns c = length-entries_in-le
