use Rattle.std.proofs.Common.{rules, ◌≡◌, ℕ, List, Err, subst, sym}
use Rattle.payd.proofs.Members.{keys_stop}
use Rattle.payd.proofs.folders.given_in.Goals as goal

pub returns-in_err-found-clause-stop : goal.returns-in_err-found-clause-stop
returns-in_err-found-clause-stop g c =
    let holds = g.F.NamedFiles.holds c.args.files.now in
    let same : c.from_residual-in_err-found.result ≡ Err c.in_err-found.field-0.0 = search rules in
    let bytes : c.as_slice-2.result.now ≡ c.in_ok-bytes.bytes.items = search rules in
    let held = subst (λ (b : List ℕ). holds c.args.keys.now b) (sym bytes) c.in_ok-bytes.ensures.ok in
    rw same
    (keys_stop holds c.args.genesis.now c.args.keys.now _ c.as_slice-2.result.now c.in_err-found.field-0.0 held
    c.in_err-found.ensures.stop)
