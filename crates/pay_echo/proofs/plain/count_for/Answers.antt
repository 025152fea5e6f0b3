use Rattle.std.proofs.Common.{◌∙◌}
use Rattle.pay_echo.proofs.Places.{count-at, count-none}
use Rattle.pay_echo.proofs.plain.count_for.Goals as goal

pub returns-in-Some-clause-count : goal.returns-in-Some-clause-count
returns-in-Some-clause-count c =
    c.count_at.ensures.count ∙ count-at c.args.values.now c.args.value.now c.requires c.in-Some.place c.in-Some.ensures c.args.places.now

pub returns-in-None-clause-count : goal.returns-in-None-clause-count
returns-in-None-clause-count c = count-none c.args.values.now c.args.value.now c.in-None.ensures c.args.places.now
