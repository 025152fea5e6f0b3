use Rattle.std.proofs.Common.{rules, arith, ◌≡◌, ◌≤◌, length, length-append, [], ◌∷◌, ◌++◌, Err, drop, refl, inl}
use Rattle.pay_frame.specs.declared.engine.EngineFault.TheVariants.{Memory}
use Rattle.payd.specs.declared.stop.Stop.TheVariants.{Engine}
use Rattle.std.proofs.lemmas.List.{drop_all}
use Rattle.payd.proofs.Exports.{at_end, goes_on, some_name, stops_at}
use Rattle.payd.proofs.files.verdict_on.Goals as goal

pub returns-in_err-export-clause-stop : goal.returns-in_err-export-clause-stop
returns-in_err-export-clause-stop g c =
    let same : c.from_residual.result ≡ Err c.in_err-export.field-0.0 = search rules in
    let so_far = c.loop-name.invariant in
    rw same
    (stops_at (g.F.NamedFiles.holds c.args.files.now) c.args.names.now c.loop-name.name-index _ so_far.exports c.loop-name-test.true
    so_far.reading c.in_err-export.field-0.0 c.in_err-export.ensures.stop)

pub returns-in_err-auditor-clause-stop : goal.returns-in_err-auditor-clause-stop
returns-in_err-auditor-clause-stop g c =
    let same : c.from_residual-in_err-auditor.result ≡ Err (Engine Memory) = search rules in
    let names = c.args.names.now in
    let so_far = c.loop-name.invariant in
    rw same
    (stops_at (g.F.NamedFiles.holds c.args.files.now) names c.loop-name.name-index (some_name names c.loop-name.name-index c.loop-name-test.true) so_far.exports
    c.loop-name-test.true so_far.reading (Engine Memory) (inl refl))

pub loop-name-preserved : goal.loop-name-preserved
loop-name-preserved g c =
    let so_far = c.loop-name.invariant in
    let e = c.in_ok-export.export in
    record {
      exports = so_far.exports ++ e ∷ [];
      reading = goes_on (g.F.NamedFiles.holds c.args.files.now) c.args.names.now c.loop-name.name-index _ so_far.exports c.loop-name-test.true
          so_far.reading e c.in_ok-export.ensures.value;
      taken = c.in_ok-auditor.ensures.taken so_far.exports so_far.taken;
      each = omega (arith, so_far.each, length-append so_far.exports (e ∷ []));
    }

pub returns-clause-verdict : goal.returns-clause-verdict
returns-clause-verdict g c =
    let so_far = c.loop-name.invariant in
    let all : length c.args.names.now ≤ c.loop-name.name-index = omega (arith, c.loop-name-test.false) in
    let none = drop_all c.loop-name.name-index c.args.names.now all in
    record {
      exports = so_far.exports;
      read = at_end (g.F.NamedFiles.holds c.args.files.now) c.args.names.now (drop c.loop-name.name-index c.args.names.now) so_far.exports none so_far.reading;
      is = c.verdict.ensures so_far.exports so_far.taken;
    }
