use Rattle.std.proofs.Common.{refl}
use Rattle.pay_audit.specs.Export.{value_said, values_said}
use Rattle.pay_audit.proofs.ItemsSaid.{IsOfEach, said_all, said_more, said_none}
use Rattle.pay_audit.proofs.reading.values_said.Goals as goal

each : IsOfEach value_said values_said
each = record { none = refl; more = λ d ds. refl }

pub loop-item-preserved : goal.loop-item-preserved
loop-item-preserved c =
    said_more value_said values_said each c.args.items.now c.loop-item.item-index c.item-item.result c.in_ok-value.field-0 c.in-Some.value
    c.loop-item.values.items c.push.new.self.items c.loop-item-test.true c.item-item.is c.in_ok-value.ensures c.in-Some.is c.in_ok-push.ensures.items
    c.loop-item.invariant

pub returns-in_default : goal.returns-in_default
returns-in_default c =
    said_none value_said values_said each c.args.items.now c.loop-item.item-index c.item-item.result c.in_ok-value.field-0 c.loop-item.values.items
    c.loop-item-test.true c.item-item.is c.in_ok-value.ensures c.in_default.is c.loop-item.invariant

pub returns : goal.returns
returns c =
    said_all value_said values_said each c.args.items.now c.loop-item.item-index c.loop-item.values.items c.loop-item-test.false c.loop-item.invariant
