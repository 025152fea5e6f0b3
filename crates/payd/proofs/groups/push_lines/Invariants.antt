use Rattle.std.proofs.Common.{◌≡◌, ◌++◌, drop, map}
use Rattle.payd.specs.Groups.{group_lines}
use Rattle.payd.proofs.groups.push_lines.Given as goal

-- with the lines that are to come the text has all
abbrev pub invariant-loop-line : goal.invariant-loop-line
invariant-loop-line l =
    l.text.items ++ group_lines l.word (map (λ t. t.now) (drop l.line-index l.lines))
    ≡ l.initial.text.items ++ group_lines l.word (map (λ t. t.now) l.lines)
