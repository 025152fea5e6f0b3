use Rattle.std.proofs.Common.{Result, Ok, Err}
use Rattle.std.specs.Prelude.{OnOk}
use Rattle.pay_record.proofs.Starting.{crash_since, more_on_disk}
use Rattle.pay_record.proofs.crashes.append_records.Goals as goal

on_ok : {E : Type 0} (r : Result Unit E) (A P : Type 0) → OnOk r A → (A → P) → OnOk r P
on_ok (Ok u) A P a f = f a
on_ok (Err e) A P a f = tt

pub returns-clause-on_disk : goal.returns-clause-on_disk
returns-clause-on_disk g c =
    on_ok c.append.result _ _ c.append.ensures.acknowledged (λ acknowledged gen k logged further has others is.
    more_on_disk g.D.Device.is_known g.D.Device.seen g.D.Device.may_leave c.args.log.now c.append.new.self c.args.records.now gen k logged further c.append.ensures.key acknowledged has others is)

pub returns-clause-since : goal.returns-clause-since
returns-clause-since g c gen k logged further has others is =
    crash_since g.D.Device.is_known g.D.Device.seen g.D.Device.may_leave g.D.Device.moment g.D.Device.left_since c.one_list.ensures c.one_reading.ensures.one
    c.args.log.now c.append.new.self c.args.records.now gen k logged further c.append.ensures.any_moment has others is
