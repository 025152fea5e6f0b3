use Rattle.std.proofs.Common.{List, ℕ, Bor, drop, map}
use Rattle.payd.proofs.Exports.{IsReading}
use Rattle.payd.proofs.files.exports_of.Given as goal

abbrev pub invariant-loop-name : goal.invariant-loop-name
invariant-loop-name g l =
    IsReading (g.F.NamedFiles.holds l.files) (map (λ (name : Bor (List ℕ)). name.now) l.names)
    (map (λ (name : Bor (List ℕ)). name.now) (drop l.name-index l.names)) l.exports.items
