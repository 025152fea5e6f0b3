use Rattle.std.proofs.Common.{◌≡◌, ◌++◌, drop}
use Rattle.std.specs.List.{flat_map}
use Rattle.pay_desk.specs.Words.{line_words}
use Rattle.pay_desk.proofs.wording.push_lines.Given as goal

-- with the words of the lines to come it is the whole text
abbrev pub invariant-loop-line : goal.invariant-loop-line
invariant-loop-line l =
    l.out.items ++ flat_map line_words (drop l.line-index l.lines) ≡ l.fn.out.items ++ flat_map line_words l.lines
