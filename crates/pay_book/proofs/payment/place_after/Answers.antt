use Rattle.std.proofs.Common.{arith}
use Rattle.pay_book.proofs.Entries.{count_in-few}
use Rattle.pay_book.proofs.payment.place_after.Goals as goal

pub overflow_add-place : goal.overflow_add-place
overflow_add-place c = omega (arith, c.requires.entry, count_in-few c.args.value.now)
