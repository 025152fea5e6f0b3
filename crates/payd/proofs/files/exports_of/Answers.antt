use Rattle.std.proofs.Common.{rules, arith, ◌≡◌, ◌+◌, ◌≤◌, length, Err, drop, refl, inl, subst, sym}
use Rattle.pay_frame.specs.declared.engine.EngineFault.TheVariants.{Memory}
use Rattle.payd.specs.declared.stop.Stop.TheVariants.{Engine}
use Rattle.std.proofs.lemmas.List.{drop_all}
use Rattle.payd.proofs.Exports.{IsReading, at_end, goes_on, some_name, stops_at, texts}
use Rattle.payd.proofs.files.exports_of.Goals as goal

pub returns-in_err-export-clause-stop : goal.returns-in_err-export-clause-stop
returns-in_err-export-clause-stop g c =
    let same : c.from_residual.result ≡ Err c.in_err-export.field-0.0 = search rules in
    rw same
    (stops_at (g.F.NamedFiles.holds c.args.files.now) c.args.names.now c.loop-name.name-index _ c.loop-name.exports.items c.loop-name-test.true
    c.loop-name.invariant c.in_err-export.field-0.0 c.in_err-export.ensures.stop)

pub returns-in_err-push-clause-stop : goal.returns-in_err-push-clause-stop
returns-in_err-push-clause-stop g c =
    let same : c.from_residual-in_err-push.result ≡ Err (Engine Memory) = search rules in
    let names = c.args.names.now in
    rw same
    (stops_at (g.F.NamedFiles.holds c.args.files.now) names c.loop-name.name-index (some_name names c.loop-name.name-index c.loop-name-test.true) c.loop-name.exports.items
    c.loop-name-test.true c.loop-name.invariant (Engine Memory) (inl refl))

pub loop-name-preserved : goal.loop-name-preserved
loop-name-preserved g c =
    let holds = g.F.NamedFiles.holds c.args.files.now in
    let names = c.args.names.now in
    subst (IsReading holds (texts names) (texts (drop (c.loop-name.name-index + 1) names))) (sym c.in_ok-push.ensures.items)
    (goes_on holds names c.loop-name.name-index _ c.loop-name.exports.items c.loop-name-test.true
    c.loop-name.invariant c.in_ok-export.export c.in_ok-export.ensures.value)

pub returns-clause-read : goal.returns-clause-read
returns-clause-read g c =
    let all : length c.args.names.now ≤ c.loop-name.name-index = omega (arith, c.loop-name-test.false) in
    let none = drop_all c.loop-name.name-index c.args.names.now all in
    at_end (g.F.NamedFiles.holds c.args.files.now) c.args.names.now (drop c.loop-name.name-index c.args.names.now) c.loop-name.exports.items none c.loop-name.invariant
