use Rattle.pay_net.proofs.Endings.{closed_by, closes_so}
use Rattle.pay_net.proofs.closing.close_stopped.Goals as goal

pub returns-clause-closed : goal.returns-clause-closed
returns-clause-closed g c =
    closed_by c.args.stopped c.args.seats.now _ _ c.answer_of_close.ensures
    (closes_so c.args.stopped c.args.seats.now c.close.result c.close.ensures.member c.close.ensures.closed
    c.close.ensures.fault c.close.ensures.back)
