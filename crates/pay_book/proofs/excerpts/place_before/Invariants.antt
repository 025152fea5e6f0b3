use Rattle.std.proofs.Common.{◌≡◌, ◌+◌, ◌-◌, ◌≤◌, length}
use Rattle.pay_book.specs.Payment.{count_in}
use Rattle.pay_book.specs.Places.{place_in}
use Rattle.pay_book.proofs.excerpts.place_before.Given as goal

-- `start` is the number of the first entry of the value `seq`, and the earlier number is before that or in this value
abbrev pub invariant-loop-start : goal.invariant-loop-start
invariant-loop-start g l =
    record {
      within : l.seq ≤ length (g.S.Source.lists l.source l.owner);
      begins : place_in count_in (g.S.Source.lists l.source l.owner) l.start ≡ (l.seq, 0);
      here : l.start ≤ l.earlier → place_in count_in (g.S.Source.lists l.source l.owner) l.earlier ≡ (l.seq, l.earlier - l.start);
      few : l.earlier ≤ l.start + 255;
    }

abbrev pub decreases-loop-start : goal.decreases-loop-start
decreases-loop-start g l = l.seq
