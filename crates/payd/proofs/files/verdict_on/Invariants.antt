use Rattle.std.proofs.Common.{List, ℕ, Bor, drop, map}
use Rattle.payd.proofs.Exports.{IsAuditing}
use Rattle.payd.proofs.files.verdict_on.Given as goal

abbrev pub invariant-loop-name : goal.invariant-loop-name
invariant-loop-name g l =
    IsAuditing (g.F.NamedFiles.holds l.files) (map (λ (name : Bor (List ℕ)). name.now) l.names)
    (map (λ (name : Bor (List ℕ)). name.now) (drop l.name-index l.names)) l.name-index l.auditor
