use Rattle.std.proofs.Common.{◌≡◌, take}
use Rattle.pay_book.specs.Book.{IsSettled}
use Rattle.pay_audit.specs.Export.{list_in}
use Rattle.pay_audit.proofs.auditing.settle_export.Given as goal

-- all is settled that the lists shown so far allow
abbrev pub invariant-loop-owner : goal.invariant-loop-owner
invariant-loop-owner g l =
    record {
      opening : (g.B.Settle.shows l.book).opening ≡ l.export.genesis.opening;
      settled : IsSettled (list_in (take l.owner l.export.lists)) (g.B.Settle.shows l.book);
    }
