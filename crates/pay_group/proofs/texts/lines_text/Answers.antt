use Rattle.std.proofs.Common.{◌≡◌, ap, ◌∙◌, arith}
use Rattle.std.specs.Prelude.{sum}
use Rattle.pay_audit.specs.Export.{lists_of}
use Rattle.pay_audit.specs.Verdict.{book_of}
use Rattle.pay_group.proofs.Members.{one_size}
use Rattle.pay_group.proofs.texts.lines_text.Goals as goal

pub push_all_exports-requires : goal.push_all_exports-requires
push_all_exports-requires c =
    one_size c.args.exports.now c.args.book.now.genesis c.requires.exports_are.first c.requires.exports_are.geneses

pub push_total-requires-clause-total : goal.push_total-requires-clause-total
push_total-requires-clause-total c =
    let b = c.args.book.now in
    let settled = c.settled_book_exists.ensures b.genesis.opening (lists_of b) in
    let total : sum b.balances ≡ sum b.genesis.opening = ap sum c.requires.book.balances ∙ c.book_keeps_total.ensures (lists_of b) (book_of b) settled.is in
    omega (arith, total, c.requires.is_export.genesis.total)

pub push_total-requires-clause-count : goal.push_total-requires-clause-count
push_total-requires-clause-count c = c.requires.is_export.balances
