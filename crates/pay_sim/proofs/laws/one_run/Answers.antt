use Rattle.pay_sim.proofs.OneText.{one_run}
use Rattle.pay_sim.proofs.laws.one_run.Goals as goal

pub returns : goal.returns
returns c = λ script text other ended end one two. one_run c.one_answer.ensures.unique script text other ended end one two
