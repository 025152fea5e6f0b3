use Rattle.std.proofs.Common.{◌≡◌, ℕ, ◌<◌, ◌≤◌}
use Rattle.pay_audit.specs.Compared.{longer}
use Rattle.pay_audit.specs.Export.{list_in}
use Rattle.pay_audit.proofs.comparison.keep_longer.Given as goal

-- the longer ones so far, and the others as they were
abbrev pub invariant-loop-account : goal.invariant-loop-account
invariant-loop-account l = record {
  longer : (a : ℕ) → a < l.account → list_in l.kept a ≡ longer (list_in l.fn.kept a) (list_in l.lists a);
  kept : (a : ℕ) → l.account ≤ a → list_in l.kept a ≡ list_in l.fn.kept a;
}
