use Rattle.std.proofs.Common.{◌≡◌, ◌++◌, drop}
use Rattle.std.specs.List.{filter, flat_map}
use Rattle.pay_audit.specs.Findings.{lists_value, name_words}
use Rattle.pay_audit.proofs.forks.push_names.Given as goal

-- with the names of the exports to come it is the whole text
abbrev pub invariant-loop-named : goal.invariant-loop-named
invariant-loop-named l =
    l.out.items ++ flat_map name_words (filter (lists_value l.owner l.seq l.value) (drop l.named-index l.group))
    ≡ l.fn.out.items ++ flat_map name_words (filter (lists_value l.owner l.seq l.value) l.group)
