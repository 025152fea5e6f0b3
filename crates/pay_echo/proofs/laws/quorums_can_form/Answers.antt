use Rattle.pay_echo.proofs.Sets.{rest_is_quorum, quorum_is_more, more_remain}
use Rattle.pay_echo.proofs.laws.quorums_can_form.Goals as goal

pub returns : goal.returns
returns c = record { rest = rest_is_quorum; more = quorum_is_more; remain = more_remain }
