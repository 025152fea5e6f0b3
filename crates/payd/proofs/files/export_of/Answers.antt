use Rattle.std.proofs.Common.{rules, ◌≡◌, ℕ, List, subst, sym}
use Rattle.pay_audit.specs.Export.{export_in}
use Rattle.pay_audit.specs.declared.exported.ExportFault.TheVariants.{Memory}
use Rattle.payd.specs.declared.stop.Stop.TheVariants.{Export}
use Rattle.payd.proofs.Said.{fault_said}
use Rattle.payd.proofs.files.export_of.Goals as goal

pub returns-clause-stop : goal.returns-clause-stop
returns-clause-stop g c =
    let holds = g.F.NamedFiles.holds c.args.files.now in
    let same : c.as_slice.result.now ≡ c.in_ok-bytes.bytes.items = search rules in
    let held = subst (λ (bytes : List ℕ). holds c.args.name.now bytes) (sym same) c.in_ok-bytes.ensures.ok in
    fault_said holds c.args.name export_in Export Memory c.in-Err.fault c.as_slice.result.now held c.in-Err.ensures
