use Rattle.std.proofs.Common.{◌≡◌, ◌++◌, drop}
use Rattle.std.specs.List.{enumerate_from, flat_map}
use Rattle.pay_group.specs.Text.{export_words}
use Rattle.pay_group.proofs.lines.push_all_exports.Given as goal

-- with the words of the exports to come it is the whole text
abbrev pub invariant-loop-place : goal.invariant-loop-place
invariant-loop-place l =
    l.out.items ++ flat_map (λ n. export_words l.book n.0 n.1) (enumerate_from l.place (drop l.place l.exports))
    ≡ l.fn.out.items ++ flat_map (λ n. export_words l.book n.0 n.1) (enumerate_from 0 l.exports)
