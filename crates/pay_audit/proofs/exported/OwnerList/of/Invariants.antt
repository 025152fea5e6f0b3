use Rattle.std.proofs.Common.{◌≡◌, length, take}
use Rattle.pay_audit.specs.Rows.{AreRows, rows_from}
use Rattle.pay_audit.proofs.exported.OwnerList.of.Given as goal

-- the values so far
abbrev pub invariant-loop-value : goal.invariant-loop-value
invariant-loop-value l = record {
  values : rows_from 0 l.bytes.items l.ends.items ≡ take l.value-index l.values;
  rows : AreRows 0 (length l.bytes.items) l.ends.items;
  so_many : length l.ends.items ≡ l.value-index;
}
