use Rattle.std.proofs.Common.{slice_index, sym, subst}
use Rattle.pay_book.specs.Front.{IsLargest}
use Rattle.pay_audit.specs.Export.{lists_of}
use Rattle.pay_audit.specs.Laws.{logs_of}
use Rattle.pay_audit.specs.Verdict.{book_of}
use Rattle.pay_group.proofs.laws.book_is_settled.Goals as goal

pub returns : goal.returns
returns c = λ exports b book.
    subst (λ front. IsLargest b.genesis.opening (logs_of b) (slice_index front)) (sym book.book.front)
    (c.settled_is_largest.ensures (lists_of b) (book_of b) (c.settled_book_exists.ensures b.genesis.opening (lists_of b)))
