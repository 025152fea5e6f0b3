use Rattle.std.proofs.Common.{◌≡◌, length, take}
use Rattle.pay_audit.specs.Rows.{AreRows, rows_from}
use Rattle.pay_audit.proofs.exported.OwnerList.from_source.Given as goal

-- the values so far
abbrev pub invariant-loop-place : goal.invariant-loop-place
invariant-loop-place g l = record {
  values : rows_from 0 l.bytes.items l.ends.items ≡ take l.place (g.S.Source.lists l.source l.owner);
  rows : AreRows 0 (length l.bytes.items) l.ends.items;
  so_many : length l.ends.items ≡ l.place;
}
