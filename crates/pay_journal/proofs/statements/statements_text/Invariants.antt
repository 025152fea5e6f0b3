use Rattle.std.proofs.Common.{◌≡◌}
use Rattle.std.specs.List.{flat_map, range_with_len}
use Rattle.pay_journal.specs.Statements.{statement_in}
use Rattle.pay_journal.proofs.statements.statements_text.Given as goal

-- the statements of the accounts so far
abbrev pub invariant-loop-account : goal.invariant-loop-account
invariant-loop-account l =
    (l.texts.items ≡ flat_map (statement_in l.export) (range_with_len 0 l.account))
