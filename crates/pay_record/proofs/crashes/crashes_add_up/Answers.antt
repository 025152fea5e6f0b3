use Rattle.pay_record.specs.Crashes.{StartsWith}
use Rattle.pay_record.proofs.Starting.{add_up}
use Rattle.pay_record.proofs.crashes.crashes_add_up.Goals as goal

pub returns : goal.returns
returns g c gen k logged old mid new first second =
    add_up g.D.Device.moment g.D.Device.left_since (StartsWith gen k logged) old mid new first second
