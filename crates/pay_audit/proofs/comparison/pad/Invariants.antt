use Rattle.std.proofs.Common.{◌≡◌, ℕ, ◌≤◌, length}
use Rattle.pay_audit.specs.Export.{list_in}
use Rattle.pay_audit.proofs.comparison.pad.Given as goal

-- there are more accounts, and all lists are the same
abbrev pub invariant-loop-account : goal.invariant-loop-account
invariant-loop-account l = record {
  same : (a : ℕ) → list_in l.lists.items a ≡ list_in l.fn.lists.items a;
  more : length l.fn.lists.items ≤ length l.lists.items;
  so_many : l._account ≤ length l.lists.items;
}
