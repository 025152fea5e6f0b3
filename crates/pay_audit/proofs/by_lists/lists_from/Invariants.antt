use Rattle.std.proofs.Common.{◌≡◌, map}
use Rattle.std.specs.List.{range_with_len}
use Rattle.pay_audit.specs.Export.{AreShort}
use Rattle.pay_audit.proofs.by_lists.lists_from.Given as goal

-- those of the owners so far
abbrev pub invariant-loop-owner : goal.invariant-loop-owner
invariant-loop-owner g l = record {
  lists : l.lists.items ≡ map (g.S.Source.lists l.source) (range_with_len 0 l.owner);
  short : AreShort l.lists.items;
}
