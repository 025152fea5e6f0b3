use Rattle.std.proofs.Common.{◌≡◌, ◌++◌, map, take}
use Rattle.pay_book.specs.Payment.{count_in}
use Rattle.pay_book.specs.Places.{place_in}
use Rattle.pay_book.specs.Statement.{numbered_entries_of, own_line}
use Rattle.pay_book.proofs.statements.push_own.Given as goal

abbrev pub invariant-loop-number : goal.invariant-loop-number
invariant-loop-number g l =
    record {
      at : l.place ≡ place_in count_in (g.S.Source.lists l.source l.account) l.number;
      so_far : l.lines.items ≡ l.fn.lines.items ++ map (λ e. own_line e.0 e.1) (take l.number (numbered_entries_of l.accounts (g.S.Source.lists l.source) l.account));
    }
