-- What is gathered from a node's member.
use Rattle.std.specs.Prelude.{Result, ⊤}
use Rattle.std.specs.declared.alloc.AllocError.{AllocError}
use Rattle.pay_member.specs.Legal.{Legal}
use Rattle.pay_member.specs.Member.{MemberFields}
use Rattle.pay_node.specs.Nodes.{IsOwn, NodeFields}

-- The node's member, with some legal history, was lent to a gatherer, which answered this, and this
-- became of the gatherer.
pub record IsGathered {G : Type 0}
    (gathers : G → MemberFields → Result ⊤ AllocError → G → Type 0) (n : NodeFields)
    (old : G) (answer : Result ⊤ AllocError) (new : G) : Type 0 where
  pub member : MemberFields
  pub own : IsOwn n member
  pub legal : Legal member.genesis member.keys member.history
  pub gathered : gathers old member answer new
