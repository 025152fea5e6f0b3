use Rattle.pay_library_tests.proofs.ListValues.{owner_values-empty}
use Rattle.pay_library_tests.proofs.book.lists.Lists.new.Goals as goal

pub returns-clause-empty : goal.returns-clause-empty
returns-clause-empty c = owner_values-empty c.loop-owner.values.items c.loop-owner.invariant.1
