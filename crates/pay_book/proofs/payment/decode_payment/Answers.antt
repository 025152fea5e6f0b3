use Rattle.pay_book.proofs.Entries.{count_in-some}
use Rattle.pay_book.proofs.payment.decode_payment.Goals as goal

pub entry_at-requires : goal.entry_at-requires
entry_at-requires c = count_in-some c.args.value.now
