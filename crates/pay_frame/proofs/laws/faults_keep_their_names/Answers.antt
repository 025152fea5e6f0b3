use Rattle.std.proofs.Common.{◌≡◌, refl}
use Rattle.pay_frame.specs.StreamFault.{stream_entry}
use Rattle.pay_frame.specs.declared.device.StreamFault.{StreamFault}
use Rattle.pay_frame.specs.declared.device.StreamFault.TheVariants.{Memory, Read, Write, Bound}
use Rattle.pay_frame.specs.EngineFault.{engine_entry, engine_of}
use Rattle.pay_frame.proofs.laws.faults_keep_their_names.Goals as goal

law : (fault : StreamFault) → engine_entry (engine_of fault) ≡ stream_entry fault
law Memory = refl
law Read = refl
law Write = refl
law Bound = refl

pub returns : goal.returns
returns g = record { law = law }
