use Rattle.std.proofs.Common.{Bor, ap, ◌∙◌, []}
use Rattle.std.specs.Option.{unwrap_or}
use Rattle.clap.proofs.WalkLemmas.{first_value-rows}
use Rattle.clap.specs.Words.{Text, found_of}
use Rattle.pay_cli.proofs.AskedLemmas.{text_or}
use Rattle.pay_cli.proofs.words.required_value.Goals as goal

pub returns : goal.returns
returns c =
    ap (λ (s : Bor Text). s.now) c.unwrap_or.ensures ∙ text_or c.get_str.result _
    ∙ ap (λ o. unwrap_or o []) (c.get_str.ensures ∙ first_value-rows (found_of c.args.matches.now) c.args.option.now)
