use Rattle.pay_laws.proofs.Exports.{clean_exports}
use Rattle.pay_laws.proofs.laws.exports_are_clean.Goals as goal

pub returns : goal.returns
returns c = λ g faulty actions members genesis few genuine are.
    clean_exports c.verdict_is_judged.ensures.clean c.equal_lists_equal_books.ensures c.largest_is_computed.ensures
    c.settled_book_exists.ensures c.lists_are_delivered.ensures.short c.lists_by_actions.ensures.no_fork
    g faulty actions members genesis few genuine are
