use Rattle.std.proofs.Common.{◌≡◌, ◌+◌, ◌++◌, drop}
use Rattle.pay_desk.specs.Words.{entries_words}
use Rattle.pay_desk.proofs.wording.push_entries.Given as goal

-- with the words of the entries to come it is the whole text
abbrev pub invariant-loop-k : goal.invariant-loop-k
invariant-loop-k l =
    l.out.items ++ entries_words l.word l.account (l.first + l.k) (drop l.k l.entries) ≡ l.fn.out.items ++ entries_words l.word l.account l.first l.entries
