use Rattle.std.proofs.Common.{sym, ◌∙◌, subst, ◌≤◌}
use Rattle.std.proofs.lemmas.Bool.{le-ltb}
use Rattle.pay_group.proofs.Counting.{had, had_not}
use Rattle.pay_group.proofs.listing.has.Goals as goal

pub returns-then-place-length : goal.returns-then-place-length
returns-then-place-length g c = c.eq.ensures ∙ sym (had c.args.place c.args.value.now c.at.result.now (g.S.Source.lists c.args.source.now c.args.owner) c.at.ensures)

pub returns-else-place-length : goal.returns-else-place-length
returns-else-place-length g c =
    let list = g.S.Source.lists c.args.source.now c.args.owner in
    let past = c.if-place-length.false in
    le-ltb c.args.place c.length.result past ∙ sym (had_not c.args.place c.args.value.now list (subst (λ n. n ≤ c.args.place) c.length.ensures past))
