use Rattle.std.proofs.Common.{refl}
use Rattle.pay_audit.proofs.auditor.Auditor.new.Goals as goal

pub returns-clause-taken : goal.returns-clause-taken
returns-clause-taken c = record {
  taken = refl;
  genesis = refl;
  wrong = record { genesis = refl; front = λ _. refl; balance = λ _ _. refl };
  lists = λ _. c.new.ensures;
}
