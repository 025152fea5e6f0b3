use Rattle.std.proofs.Common.{◌≡◌, ◌≢◌, [], Some, length, sym, ◌∙◌, append-nil, arith, rules}
use Rattle.std.proofs.lemmas.Grind.{common_steps}
use Rattle.pay_sim.specs.Script.{LineTells, Obeys}
use Rattle.pay_sim.proofs.Reading.{done_as, empty_tells, command_tells}
use Rattle.pay_sim.proofs.run.obey_line.Goals as goal

pub returns-then-is_empty : goal.returns-then-is_empty
returns-then-is_empty g c = λ group es b.
    let none : length c.args.line.now ≡ 0 = (let is = c.if-is_empty.ensures in first_of (omega arith, search rules)) in
    ([], es, empty_tells group es c.args.line.now none, sym (append-nil c.args.out.now.items), b)

pub returns-in-Some : goal.returns-in-Some
returns-in-Some g c = λ group es b.
    let some : length c.args.line.now ≢ 0 = first_of (search rules, grind arith) in
    done_as (Obeys group es c.in-Some.command) (LineTells group es c.args.line.now) group _ _ _ c.obey.result
    (λ t does. command_tells group es c.args.line.now (Some c.in-Some.command) t some (sym c.in-Some.is ∙ c.in_ok-command.ensures) does) (c.obey.ensures group es b)

pub returns-in-None : goal.returns-in-None
returns-in-None g c = grind (arith, common_steps)
