use Rattle.std.proofs.Common.{◌≡◌, Bor, List, ℕ, map, take}
use Rattle.pay_audit.specs.Export.{ExportFields}
use Rattle.pay_audit.specs.declared.findings.Named.{Named}
use Rattle.payd.proofs.texts.name_exports.Given as goal

-- those so far
abbrev pub invariant-loop-place : goal.invariant-loop-place
invariant-loop-place l = record {
  by_name : map (λ (n : Named). n.name.now) l.named.items ≡ map (λ (name : Bor (List ℕ)). name.now) (take l.place l.names);
  of : map (λ (n : Named). n.export.now) l.named.items ≡ take l.place l.exports;
}
