-- The program's status, according to how its work ended.
use Rattle.std.specs.Prelude.{ℕ, Bool, true, false, Result, Ok, Err}
use Rattle.pay_audit.specs.declared.auditing.Verdict.{Verdict}
use Rattle.pay_audit.specs.declared.auditing.Verdict.TheVariants.{Clean}
use Rattle.pay_frame.specs.EngineFault.{engine_of}
use Rattle.pay_frame.specs.declared.device.StreamFault.{StreamFault}
use Rattle.pay_sim.specs.declared.run.SimEnd.{SimEnd}
use Rattle.pay_sim.specs.declared.run.SimEnd.TheVariants.{Done, Forged, BadLine, Limit}
use Rattle.payd.specs.Stops.{status_of}
use Rattle.payd.specs.declared.stop.Stop.{Stop}
use Rattle.payd.specs.declared.stop.Stop.TheVariants.{Engine}

-- finished work has status 0
abbrev pub ended_status : {X : Type 0} → Result X Stop → ℕ
ended_status (Ok done) = 0
ended_status (Err stop) = status_of stop

-- exports that aren't clean have status 1
abbrev pub audit_status : Result Verdict Stop → ℕ
audit_status (Ok Clean) = 0
audit_status (Ok verdict) = 1
audit_status (Err stop) = status_of stop

-- whether there is a group ledger
abbrev pub book_status : Result Bool Stop → ℕ
book_status (Ok true) = 0
book_status (Ok false) = 1
book_status (Err stop) = status_of stop

-- a script with a forged frame, or a bad line, or one that reached the limit
abbrev pub sim_status : Result SimEnd StreamFault → ℕ
sim_status (Ok Done) = 0
sim_status (Ok Forged) = 1
sim_status (Ok BadLine) = 2
sim_status (Ok Limit) = 3
sim_status (Err fault) = status_of (Engine (engine_of fault))
