use Rattle.std.proofs.lemmas.Result.{IfOk-weaker}
use Rattle.pay_cli.proofs.AskedLemmas.{one_argument_more}
use Rattle.pay_cli.proofs.words.check.Goals as goal

pub returns : goal.returns
returns c =
    let one = one_argument_more _ _ _ _ _ c.titled_command.ensures c.file_option.ensures c.in_ok-arg.ensures in
    let two = one_argument_more _ _ _ _ _ one c.file_option-2.ensures c.in_ok-arg-2.ensures in
    IfOk-weaker c.arg-3.result _ _ (λ r h. one_argument_more _ _ _ _ _ two c.flag.ensures h) c.arg-3.ensures
