use Rattle.pay_library_tests.proofs.Drained.{after_none, after_fault}
use Rattle.pay_library_tests.proofs.cuts.is_next.Goals as goal

pub returns-in-Ok-None-clause-drained : goal.returns-in-Ok-None-clause-drained
returns-in-Ok-None-clause-drained c =
    after_none c.args.cutter.now c.next.follows.lender-at-none c.beginning_is_drained.ensures.law
    (rw c.in-Ok-None.field-0-is at (rw c.in-Ok-None.is at c.next.follows.holds-at-none))

pub returns-in-Err-clause-fault : goal.returns-in-Err-clause-fault
returns-in-Err-clause-fault c =
    after_fault c.args.cutter.now c.next.follows.lender-at-none c.in-Err.fault c.requires (rw c.in-Err.is at c.next.follows.holds-at-none)
