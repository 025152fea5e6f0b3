use Rattle.std.proofs.Common.{◌≡◌, ◌<◌, length, ap, sym, subst, ◌∙◌}
use Rattle.std.specs.List.{range_with_len}
use Rattle.std.proofs.lemmas.List.{length-map, length-replicate}
use Rattle.std.proofs.lemmas.List.FromFn.{length-range_with_len}
use Rattle.pay_link.specs.Genesis.{GenesisFields, IsGenesis}
use Rattle.pay_audit.proofs.by_lists.export_of_lists.Goals as goal

pub invariant_of-unsettled : goal.invariant_of-unsettled
invariant_of-unsettled g c =
    let lists = g.S.Source.lists c.args.source.now in
    let count = c.members-members.result in
    let copy = c.in_ok-copy.ensures in
    let members : count ≡ c.in_ok-copy.field-0.members = c.members-members.ensures.value ∙ ap (λ (x : GenesisFields). x.members) (sym copy) in
    record {
      genesis = subst IsGenesis (sym copy) c.members-members.ensures.limits;
      member = subst (λ (x : GenesisFields). c.args.member < x.members) (sym copy) c.requires.member;
      lists = ap length c.in_ok-lists_from.ensures.lists ∙ length-map (range_with_len 0 count) lists ∙ length-range_with_len 0 count ∙ members;
      front = ap length c.in_ok-zeros.ensures ∙ length-replicate count 0 ∙ members;
      balances = ap length c.in_ok-zeros-2.ensures ∙ length-replicate count 0 ∙ members;
      short = c.in_ok-lists_from.ensures.short;
    }
