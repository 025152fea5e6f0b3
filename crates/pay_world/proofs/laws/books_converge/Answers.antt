use Rattle.pay_world.proofs.Booking.{books_converge}
use Rattle.pay_world.proofs.laws.books_converge.Goals as goal

pub returns : goal.returns
returns c = λ w opening actions i j few are. books_converge c.laws_below.ensures c.laws_of_books.ensures w opening actions few are i j
