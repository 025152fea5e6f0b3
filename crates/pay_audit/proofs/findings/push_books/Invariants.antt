use Rattle.std.proofs.Common.{◌≡◌, ◌++◌, drop}
use Rattle.std.specs.List.{flat_map}
use Rattle.pay_audit.specs.Findings.{book_finding_words}
use Rattle.pay_audit.proofs.findings.push_books.Given as goal

-- with the words of the exports to come it is the whole text
abbrev pub invariant-loop-named : goal.invariant-loop-named
invariant-loop-named l = l.out.items ++ flat_map book_finding_words (drop l.named-index l.group) ≡ l.fn.out.items ++ flat_map book_finding_words l.group
