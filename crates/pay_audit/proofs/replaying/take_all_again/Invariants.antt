use Rattle.std.proofs.Common.{◌≡◌, take}
use Rattle.pay_member.specs.Legal.{Legal}
use Rattle.pay_audit.proofs.replaying.take_all_again.Given as goal

-- the member has the entries so far, which it can have
abbrev pub invariant-loop-place : goal.invariant-loop-place
invariant-loop-place g l = record {
  member : l.member ≡ record l.fn.member { history = take l.place l.entries };
  legal : Legal l.fn.member.genesis l.fn.member.keys (take l.place l.entries);
}
