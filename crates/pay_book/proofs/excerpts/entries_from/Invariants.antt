use Rattle.std.proofs.Common.{◌≡◌, ◌+◌, drop, map, take}
use Rattle.pay_book.specs.Excerpt.{shown_among}
use Rattle.pay_book.specs.Payment.{count_in}
use Rattle.pay_book.specs.Places.{place_in}
use Rattle.pay_book.specs.Statement.{numbered_entries_of}
use Rattle.pay_book.proofs.excerpts.entries_from.Given as goal

abbrev pub invariant-loop-shown : goal.invariant-loop-shown
invariant-loop-shown g l =
    record {
      at : l.place ≡ place_in count_in (g.S.Source.lists l.source l.owner) (l.number + l.shown);
      so_far : l.entries.items
          ≡ map (shown_among (g.S.Source.lists l.source l.owner)) (take l.shown (drop l.number (numbered_entries_of l.accounts (g.S.Source.lists l.source) l.owner)));
    }
