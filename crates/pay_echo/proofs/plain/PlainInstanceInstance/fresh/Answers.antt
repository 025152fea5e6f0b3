use Rattle.pay_echo.proofs.Clauses.{meaning_of-none}
use Rattle.pay_echo.proofs.PlainLemmas.{AreVotePlaces-none}
use Rattle.pay_echo.proofs.plain.PlainInstanceInstance.fresh.Goals as goal

pub invariant_of-result : goal.invariant_of-result
invariant_of-result c = rw (c.in_ok-echoes.ensures, c.in_ok-readys.ensures) (AreVotePlaces-none c.args.group c.new.result.items c.new.ensures.items c.requires.few c.requires.member)

pub returns-clause-none : goal.returns-clause-none
returns-clause-none c = rw (c.in_ok-echoes.ensures, c.in_ok-readys.ensures) (meaning_of-none c.args.group c.new.result.items c.requires.member)
