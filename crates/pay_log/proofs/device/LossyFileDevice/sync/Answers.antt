use Rattle.std.proofs.Common.{length}
use Rattle.pay_log.specs.Device.{Torn}
use Rattle.pay_log.proofs.Kept.{elapses_to}
use Rattle.pay_log.proofs.device.LossyFileDevice.sync.Goals as goal

pub returns-clause-time : goal.returns-clause-time
returns-clause-time c known =
    let old = c.args.self.now in
    elapses_to old.past.items c.push.new.self.items c.in-Ok-may_leave.left old.synced.items (length old.unsynced.items) (λ f. Torn (length c.new.result.items) c.in-Ok.next.items f)
    c.in-Ok-may_leave.ensures.0 c.in-Ok-may_leave.ensures.1 c.in-Ok-push.ensures.items
