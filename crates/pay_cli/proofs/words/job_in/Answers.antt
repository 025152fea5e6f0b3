use Rattle.std.proofs.Common.{◌∙◌}
use Rattle.std.proofs.lemmas.Result.{IfOk-weaker}
use Rattle.pay_cli.proofs.AskedLemmas.{view_of_job-none, view_of_job-some}
use Rattle.pay_cli.proofs.words.job_in.Goals as goal

pub returns-in-Some : goal.returns-in-Some
returns-in-Some c =
    IfOk-weaker c.command_job.result _ _ (λ job h. h ∙ view_of_job-some _ _ _ _ _ c.in-Some.ensures.name c.in-Some.ensures.rows) c.command_job.ensures

pub returns-in-None : goal.returns-in-None
returns-in-None c = view_of_job-none _ c.in-None.ensures.rows
