use Rattle.std.proofs.Common.{◌≡◌, ◌≤◌, take, count_by}
use Rattle.pay_echo.specs.Plain.{is_at}
use Rattle.pay_echo.proofs.plain.count_at.Given as goal

-- as many as stand among the votes so far
abbrev pub invariant-loop-vote : goal.invariant-loop-vote
invariant-loop-vote l = record { count : l.count ≡ count_by (is_at l.place) (take l.vote-index l.votes); few : l.count ≤ l.vote-index }
