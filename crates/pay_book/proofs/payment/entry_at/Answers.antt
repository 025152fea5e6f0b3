use Rattle.std.proofs.Common.{ap, ◌∙◌, sym, arith}
use Rattle.std.specs.Prelude.{Some}
use Rattle.pay_book.specs.Payment.{pair_at, pair_entry}
use Rattle.pay_book.proofs.Entries.{several_is_long, count_in-several, slice_get-several, slice_get-single}
use Rattle.pay_book.proofs.payment.entry_at.Goals as goal

pub slice_bounds-pair_entry-end : goal.slice_bounds-pair_entry-end
slice_bounds-pair_entry-end c =
    let several = sym c.is_several.ensures ∙ c.if-is_several.true in
    let long = several_is_long c.args.value.now several in
    let count = count_in-several c.args.value.now several in
    let place = c.from.ensures in
    let within = c.requires in
    omega arith

pub returns-then-is_several : goal.returns-then-is_several
returns-then-is_several c =
    let several = sym c.is_several.ensures ∙ c.if-is_several.true in
    slice_get-several c.args.accounts c.args.owner c.args.value.now c.args.place several c.requires
    ∙ ap (λ place. Some (pair_entry c.args.accounts c.args.owner (pair_at c.args.value.now place))) (sym c.from.ensures)
    ∙ ap Some (sym c.pair_entry.ensures)

pub returns-else-is_several : goal.returns-else-is_several
returns-else-is_several c =
    slice_get-single c.args.accounts c.args.owner c.args.value.now c.args.place (sym c.is_several.ensures ∙ c.if-is_several.false) c.requires
    ∙ ap Some (sym c.single_entry.ensures)
