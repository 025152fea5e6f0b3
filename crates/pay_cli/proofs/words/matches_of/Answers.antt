use Rattle.std.proofs.Common.{ap, inl, rules, subst, ◌∙◌, map, string_bytes}
use Rattle.std.proofs.lemmas.Result.{IfOk-weaker, err_from_is_err_and}
use Rattle.clap.specs.Words.{App, FailsBy, fault_of, is_simple, is_simple_and_free, subcommand_of}
use Rattle.pay_cli.proofs.AskedLemmas.{free, simple}
use Rattle.pay_cli.proofs.words.matches_of.Goals as goal

pub returns : goal.returns
returns c =
    let app = c.in_ok-command.ensures.app in
    let parse = c.try_get_matches_from in
    let P : App → Type 0 = λ a. FailsBy (fault_of a (map string_bytes c.args.words.now)) parse.result in
    record {
      command = IfOk-weaker parse.result _ _ (λ m h. (h (ap is_simple app ∙ simple)).1
          ∙ ap (λ (a : App). subcommand_of a (map string_bytes c.args.words.now)) app) parse.ensures.matches;
      fault = subst P app (parse.ensures.kinds (ap is_simple_and_free app ∙ free));
    }

pub returns-in_err-command : goal.returns-in_err-command
returns-in_err-command c =
    let p = err_from_is_err_and c.from_residual.result c.from_residual.ensures.1 in
    rw p.1 (record { command = search rules; fault = inl p.2 })
