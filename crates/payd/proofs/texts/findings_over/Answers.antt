use Rattle.std.proofs.Common.{◌≡◌, ℕ, List, Bor, length, arith}
use Rattle.std.proofs.lemmas.List.{length-map}
use Rattle.std.proofs.lemmas.Slice.Zip.{AllZip-long}
use Rattle.payd.specs.Files.{IsExportOf}
use Rattle.payd.proofs.Exports.{texts}
use Rattle.payd.proofs.texts.findings_over.Goals as goal

pub findings_of-requires : goal.findings_of-requires
findings_of-requires g c =
    let long = AllZip-long (IsExportOf (g.F.NamedFiles.holds c.args.files.now)) (texts c.args.names.now) c.in_ok-exports.exports.items c.in_ok-exports.ensures.read in
    let same = length-map c.args.names.now (λ (name : Bor (List ℕ)). name.now) in
    omega (arith, long, same)
