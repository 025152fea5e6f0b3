use Rattle.pay_record.proofs.Starting.{settled_starts}
use Rattle.pay_record.proofs.crashes.settled_log_starts.Goals as goal

pub returns : goal.returns
returns g c gen k logged file has left =
    settled_starts g.D.Device.is_known g.D.Device.seen g.D.Device.may_leave c.one_list.ensures c.one_reading.ensures.one c.one_reading.ensures.again c.args.log.now gen k logged file has left
