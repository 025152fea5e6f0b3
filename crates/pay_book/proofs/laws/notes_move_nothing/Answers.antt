use Rattle.pay_book.proofs.Notes.{notes_are_void}
use Rattle.pay_book.proofs.laws.notes_move_nothing.Goals as goal

pub returns : goal.returns
returns c = notes_are_void
