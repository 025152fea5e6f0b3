use Rattle.pay_echo.proofs.VoteLaws.{echoed_by_one_more, readied_by_one_more, delivered_by_one_more}
use Rattle.pay_echo.proofs.OneMore.{value_if_send-IsOf}
use Rattle.pay_echo.proofs.laws.one_vote_more.Goals as goal

pub returns : goal.returns
returns c = record { echoed = echoed_by_one_more; readied = readied_by_one_more; delivered = delivered_by_one_more; sent = value_if_send-IsOf }
