use Rattle.std.proofs.Common.{◌≡◌, List, ℕ, ◌++◌, ap, ◌∙◌, arith}
use Rattle.std.proofs.lemmas.Grind.{common_steps}
use Rattle.pay_peers.proofs.Asks.{wants_more}
use Rattle.pay_peers.proofs.reading_ahead.ask_for.Goals as goal

pub loop-place-preserved : goal.loop-place-preserved
loop-place-preserved g c =
    let text : List ℕ = c.want.result in
    let grown : c.extend_from_slice.new.self.items ≡ c.loop-place.out.items ++ text = c.in_ok-extend_from_slice.ensures.items in
    grown ∙ ap (λ xs. xs ++ text) c.loop-place.invariant
    ∙ wants_more c.args.keys.now c.args.peer c.args.asks.from c.loop-place.place c.args.out.now.items text c.want.ensures.bytes

pub returns : goal.returns
returns g c = grind (arith, common_steps)
