use Rattle.std.proofs.Common.{◌≡◌, ◌++◌, map, take}
use Rattle.pay_book.specs.Payment.{entries_in}
use Rattle.pay_group.proofs.lines.push_entries.Given as goal

-- those of the value so far
abbrev pub invariant-loop-place : goal.invariant-loop-place
invariant-loop-place l =
    l.entries.items ≡ l.fn.entries.items ++ map (λ e. (l.seq, e)) (take l.place (entries_in l.accounts l.account l.value))
