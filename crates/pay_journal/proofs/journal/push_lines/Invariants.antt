use Rattle.std.proofs.Common.{◌≡◌, ◌++◌, drop}
use Rattle.std.specs.List.{enumerate_from, flat_map}
use Rattle.pay_journal.specs.Journal.{transaction_words}
use Rattle.pay_journal.proofs.journal.push_lines.Given as goal

-- with the words of the lines to come it is the whole text
abbrev pub invariant-loop-number : goal.invariant-loop-number
invariant-loop-number l =
    l.out.items ++ flat_map (λ e. transaction_words l.day l.account e.0 e.1) (enumerate_from l.number (drop l.number l.lines))
    ≡ l.fn.out.items ++ flat_map (λ e. transaction_words l.day l.account e.0 e.1) (enumerate_from 0 l.lines)
