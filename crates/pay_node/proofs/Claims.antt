-- A claim changes nothing of whom a comparing is about.
use Rattle.std.proofs.Common.{ℕ, Bool, true, false, if◌then◌else◌}
use Rattle.pay_member.specs.Member.{MemberFields}
use Rattle.pay_node.specs.Comparing.{ComparingFields, IsComparingOf, is_of_now, with_claim}

either_of : (b : Bool) (m : MemberFields) (c d : ComparingFields) → IsComparingOf m c → IsComparingOf m d → IsComparingOf m (if b then c else d)
either_of true m c d one two = one
either_of false m c d one two = two

pub claimed_of : (m : MemberFields) (c : ComparingFields) (peer claim now : ℕ) → IsComparingOf m c → IsComparingOf m (with_claim c peer claim now)
claimed_of m c peer claim now its =
    either_of (is_of_now c.sent now claim) m c _ its (record { members = its.members; faults = its.faults; sent = its.sent })
