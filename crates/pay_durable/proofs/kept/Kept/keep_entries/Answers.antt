use Rattle.pay_durable.proofs.Followed.{kept_already}
use Rattle.pay_durable.proofs.kept.Kept.keep_entries.Goals as goal

pub returns-then-has-clause-kept : goal.returns-then-has-clause-kept
returns-then-has-clause-kept g c done =
    kept_already g.D.Device.is_known g.D.Device.seen g.D.Device.may_leave _ _ c.requires (c.has.ensures.durable c.if-has.true)

pub returns-then-has-2-clause-kept : goal.returns-then-has-2-clause-kept
returns-then-has-2-clause-kept g c done =
    kept_already g.D.Device.is_known g.D.Device.seen g.D.Device.may_leave _ _ c.requires (c.has-in-loop.ensures.durable c.if-has-2.true)
