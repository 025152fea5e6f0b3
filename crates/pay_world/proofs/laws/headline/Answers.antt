use Rattle.pay_world.proofs.Booking.{headline}
use Rattle.pay_world.proofs.laws.headline.Goals as goal

pub returns : goal.returns
returns c = headline c.laws_below.ensures c.laws_of_books.ensures
