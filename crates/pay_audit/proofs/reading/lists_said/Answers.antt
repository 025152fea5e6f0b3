use Rattle.std.proofs.Common.{◌≤◌, length, refl, subst}
use Rattle.std.specs.Prelude.{IfSome}
use Rattle.std.proofs.lemmas.List.Elements.{All-push, All-same}
use Rattle.pay_frame.specs.declared.limits.TheConstants.{SEQS}
use Rattle.pay_audit.specs.Export.{list_said, lists_said}
use Rattle.pay_audit.proofs.ItemsSaid.{IsOfEach, said_all, said_more, said_none}
use Rattle.pay_audit.proofs.reading.lists_said.Goals as goal

each : IsOfEach list_said lists_said
each = record { none = refl; more = λ d ds. refl }

pub loop-item-preserved : goal.loop-item-preserved
loop-item-preserved c = record {
  short =
      let here = subst (λ o. IfSome o (λ l. length l ≤ SEQS)) c.in-Some.is c.in_ok-list.ensures.short in
      All-same (λ l. length l ≤ SEQS) c.push.new.self.items _ c.in_ok-push.ensures.items
      (All-push (λ l. length l ≤ SEQS) c.loop-item.lists.items c.in-Some.list c.loop-item.invariant.short here);
  said =
      said_more list_said lists_said each c.args.items.now c.loop-item.item-index c.item-item.result c.in_ok-list.field-0 c.in-Some.list
      c.loop-item.lists.items c.push.new.self.items c.loop-item-test.true c.item-item.is c.in_ok-list.ensures.value c.in-Some.is c.in_ok-push.ensures.items
      c.loop-item.invariant.said;
}

pub returns-in_default-clause-value : goal.returns-in_default-clause-value
returns-in_default-clause-value c =
    said_none list_said lists_said each c.args.items.now c.loop-item.item-index c.item-item.result c.in_ok-list.field-0 c.loop-item.lists.items
    c.loop-item-test.true c.item-item.is c.in_ok-list.ensures.value c.in_default.is c.loop-item.invariant.said

pub returns-clause-value : goal.returns-clause-value
returns-clause-value c =
    said_all list_said lists_said each c.args.items.now c.loop-item.item-index c.loop-item.lists.items c.loop-item-test.false c.loop-item.invariant.said
