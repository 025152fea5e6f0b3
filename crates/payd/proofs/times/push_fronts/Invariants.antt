use Rattle.std.proofs.Common.{◌≡◌, ◌++◌, drop}
use Rattle.pay_desk.specs.Words.{number_words}
use Rattle.payd.proofs.times.push_fronts.Given as goal

-- with the words of the fronts to come it is the whole line
abbrev pub invariant-loop-front : goal.invariant-loop-front
invariant-loop-front l =
    l.line.items ++ number_words (drop l.front-index l.fronts) ≡ l.initial.line.items ++ number_words l.fronts
