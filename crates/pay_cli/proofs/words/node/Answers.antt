use Rattle.std.proofs.lemmas.Result.{IfOk-weaker}
use Rattle.pay_cli.proofs.AskedLemmas.{one_argument_more}
use Rattle.pay_cli.proofs.words.node.Goals as goal

pub returns : goal.returns
returns c =
    let one = one_argument_more _ _ _ _ _ c.titled_command.ensures c.required_file.ensures c.in_ok-arg.ensures in
    let two = one_argument_more _ _ _ _ _ one c.required_file-2.ensures c.in_ok-arg-2.ensures in
    let three = one_argument_more _ _ _ _ _ two c.required_file-3.ensures c.in_ok-arg-3.ensures in
    let four = one_argument_more _ _ _ _ _ three c.option.ensures c.in_ok-arg-4.ensures in
    let five = one_argument_more _ _ _ _ _ four c.option-2.ensures c.in_ok-arg-5.ensures in
    let six = one_argument_more _ _ _ _ _ five c.option-3.ensures c.in_ok-arg-6.ensures in
    let seven = one_argument_more _ _ _ _ _ six c.flag.ensures c.in_ok-arg-7.ensures in
    let eight = one_argument_more _ _ _ _ _ seven c.flag-2.ensures c.in_ok-arg-8.ensures in
    IfOk-weaker c.arg-9.result _ _ (λ r h. one_argument_more _ _ _ _ _ eight c.option-4.ensures h) c.arg-9.ensures
