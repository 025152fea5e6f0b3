-- Faults that come of a sink's refusal.
use Rattle.std.proofs.Common.{◌≡◌, ℕ, rules}
use Rattle.pay_log.specs.declared.fault.LogFault.TheVariants as fault
use Rattle.pay_log.specs.declared.reading.Refused.{Refused}
use Rattle.pay_log.specs.declared.reading.Refused.TheVariants.{Memory, Disk, Record}
use Rattle.pay_log.specs.Faults.{fault_of_sink}

pub record_refused : (r : Refused) (n : ℕ) → fault_of_sink r ≡ fault.Illegal n → r ≡ Record n
record_refused Memory n is = search (rules, is)
record_refused (Disk kind) n is = search (rules, is)
record_refused (Record m) n is = search (rules, is)
