use Rattle.pay_book.proofs.Entries.{length-entries_in}
use Rattle.pay_book.proofs.laws.values_count_their_entries.Goals as goal

pub returns : goal.returns
returns c = length-entries_in
