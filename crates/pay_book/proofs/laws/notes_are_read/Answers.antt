use Rattle.pay_book.proofs.Notes.{notes_are_read}
use Rattle.pay_book.proofs.laws.notes_are_read.Goals as goal

pub returns : goal.returns
returns c = notes_are_read
