use Rattle.std.proofs.Common.{◌≡◌, map, take}
use Rattle.std.specs.List.{enumerate_from, flat_map}
use Rattle.pay_book.specs.Payment.{entries_in}
use Rattle.pay_group.proofs.lines.numbered_entries.Given as goal

-- those of the values so far
abbrev pub invariant-loop-seq : goal.invariant-loop-seq
invariant-loop-seq g l =
    l.entries.items
    ≡ flat_map (λ v. map (λ e. (v.0, e)) (entries_in l.accounts l.account v.1)) (enumerate_from 0 (take l.seq (g.S.Source.lists l.source l.account)))
