use Rattle.std.proofs.lemmas.Result.{IfOk-weaker}
use Rattle.pay_cli.proofs.AskedLemmas.{one_argument_more}
use Rattle.pay_cli.proofs.words.audit.Goals as goal

pub returns : goal.returns
returns c =
    let one = one_argument_more _ _ _ _ _ c.titled_command.ensures c.files.ensures c.in_ok-arg.ensures in
    IfOk-weaker c.arg-2.result _ _ (λ r h. one_argument_more _ _ _ _ _ one c.flag.ensures h) c.arg-2.ensures
