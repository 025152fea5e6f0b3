use Rattle.std.proofs.Common.{◌≡◌, ◌^◌, take, true, ltb}
use Rattle.std.specs.List.{list_all}
use Rattle.pay_sim.proofs.group.as_members.Given as goal

-- the numbers so far, all of them short
abbrev pub invariant-loop-number : goal.invariant-loop-number
invariant-loop-number l = record {
  same : l.members.items ≡ take l.number-index l.numbers;
  short : list_all (λ n. ltb n (2 ^ 16)) (take l.number-index l.numbers) ≡ true;
}
