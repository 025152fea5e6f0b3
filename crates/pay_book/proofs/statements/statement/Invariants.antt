use Rattle.std.proofs.Common.{◌≡◌, ◌++◌, slice_index}
use Rattle.std.specs.List.{flat_map, range_with_len}
use Rattle.pay_book.specs.Statement.{own_lines, incoming_lines}
use Rattle.pay_book.proofs.statements.statement.Given as goal

abbrev pub invariant-loop-owner : goal.invariant-loop-owner
invariant-loop-owner g l =
    l.lines.items
    ≡ own_lines l.accounts (g.S.Source.lists l.source) (slice_index (g.B.Settle.shows l.book).front) l.account
    ++ flat_map (incoming_lines l.accounts (g.S.Source.lists l.source) (slice_index (g.B.Settle.shows l.book).front) l.account) (range_with_len 0 l.owner)
