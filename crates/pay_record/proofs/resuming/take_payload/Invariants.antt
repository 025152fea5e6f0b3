use Rattle.std.proofs.Common.{length}
use Rattle.pay_record.specs.Resuming.{IsTaking}
use Rattle.pay_record.proofs.resuming.take_payload.Given as goal

abbrev pub invariant-loop-rest : goal.invariant-loop-rest
invariant-loop-rest g l = IsTaking l.fn.member.keys l.fn.member l.member l.fn.ids.items l.ids.items l.payload l.rest

abbrev pub decreases-loop-rest : goal.decreases-loop-rest
decreases-loop-rest g l = length l.rest
