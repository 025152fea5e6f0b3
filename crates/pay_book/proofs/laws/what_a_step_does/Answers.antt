use Rattle.pay_book.proofs.OneMore.{sum-stepped, step_pays_within, may_no_more}
use Rattle.pay_book.proofs.laws.what_a_step_does.Goals as goal

pub returns-clause-one_more : goal.returns-clause-one_more
returns-clause-one_more c = sum-stepped

pub returns-clause-payee : goal.returns-clause-payee
returns-clause-payee c = step_pays_within

pub returns-clause-others : goal.returns-clause-others
returns-clause-others c = may_no_more
