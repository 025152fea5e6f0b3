use Rattle.std.proofs.Common.{◌≡◌, ◌∙◌, Err, sym, subst, rules}
use Rattle.pay_frame.specs.declared.engine.EngineFault.TheVariants.{Memory}
use Rattle.pay_cli.specs.declared.check.Progress.{Progress}
use Rattle.pay_cli.specs.CheckText.{checking, at_start}
use Rattle.pay_cli.specs.Engine.{HasRoom}
use Rattle.pay_cli.specs.Values.{checker_of}
use Rattle.pay_cli.proofs.Room.{room_at_start}
use Rattle.pay_cli.proofs.Starting.{is_at_start, nothing_written, text_from_start}
use Rattle.pay_cli.proofs.check.run_check.Goals as goal

pub returns-in_err-progress-clause-text : goal.returns-in_err-progress-clause-text
returns-in_err-progress-clause-text g c =
    let k = checker_of c.args.checker.now in
    let memory : c.from_residual.result ≡ Err Memory = search rules in
    rw memory (at_start k.keys, nothing_written k (c.every_text.ensures.law k) (g.R.Input.remaining c.args.reader.now) (g.W.Output.contents c.args.writer.now))

pub handle_stream-requires : goal.handle_stream-requires
handle_stream-requires g c =
    let k = checker_of c.args.checker.now in
    let start = is_at_start k.keys c.members.result c.in_ok-progress.progress c.in_ok-progress.ensures.start (c.members.ensures.value ∙ sym c.requires.keys) in
    record { room = λ n few. subst (λ (p : Progress). HasRoom k.keys p n) (sym start) (room_at_start k.keys n few) }

pub returns-clause-text : goal.returns-clause-text
returns-clause-text g c =
    let k = checker_of c.args.checker.now in
    let start = is_at_start k.keys c.members.result c.in_ok-progress.progress c.in_ok-progress.ensures.start (c.members.ensures.value ∙ sym c.requires.keys) in
    text_from_start k c.in_ok-progress.progress _ _ _ _ _ _ start (c.exact_text.ensures.text (checking k) _ _ _ c.handle_stream.ensures.handled)
