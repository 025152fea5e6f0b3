use Rattle.std.proofs.Common.{arith}
use Rattle.std.proofs.lemmas.Bool.{ltb-true}
use Rattle.pay_frame.specs.declared.limits.TheConstants.{SEQS}
use Rattle.pay_library_tests.proofs.ListValues.{length_at-read}
use Rattle.pay_library_tests.proofs.book.lists.Lists.has_room.Goals as goal

pub returns-in-Some-clause-room : goal.returns-in-Some-clause-room
returns-in-Some-clause-room c =
    λ h.
    let look = c.in-Some.ensures.lookup in
    let len = length_at-read c.deref.result.now c.args.self.now.values.items c.args.owner c.in-Some.list.now c.len.result c.deref.ensures.value look.3.0 look.1 c.len.ensures in
    let below = ltb-true c.len.result SEQS h in
    omega arith
