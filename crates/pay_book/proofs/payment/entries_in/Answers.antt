use Rattle.std.proofs.Common.{◌∙◌, sym, arith}
use Rattle.pay_book.proofs.Entries.{several_is_long}
use Rattle.pay_book.proofs.payment.entries_in.Goals as goal

pub bounds-value-1 : goal.bounds-value-1
bounds-value-1 c =
    omega (arith, several_is_long c.args.value.now (sym c.is_several.ensures ∙ c.if-is_several.true))
