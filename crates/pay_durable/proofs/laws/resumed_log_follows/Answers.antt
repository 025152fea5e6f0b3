use Rattle.pay_durable.proofs.Followed.{resumed_follows}
use Rattle.pay_durable.proofs.laws.resumed_log_follows.Goals as goal

pub returns : goal.returns
returns g c k header file r resumed = resumed_follows (record { is_known = g.D.Device.is_known; seen = g.D.Device.seen; may_leave = g.D.Device.may_leave }) k header file r c.args.log.now resumed
