use Rattle.std.proofs.Common.{◌≡◌, Err, arith, rules}
use Rattle.pay_sim.proofs.Bringing.{passes_done, passes_more, passes_broken}
use Rattle.pay_sim.proofs.game.Game.bring_all.Goals as goal

pub returns-in_err-pass-clause-brought : goal.returns-in_err-pass-clause-brought
returns-in_err-pass-clause-brought g c = λ group es b.
    let l = c.passes.invariant.leads group es b in
    let same : c.from_residual.result ≡ Err c.in_err-pass.field-0.0 = search rules in
    rw same (passes_broken group es c.passes.self c.pass.new.self c.in_err-pass.field-0.0 l (c.in_err-pass.ensures.brought group))

pub returns-then-made_count-before-clause-brought : goal.returns-then-made_count-before-clause-brought
returns-then-made_count-before-clause-brought g c = λ group es b.
    let l = c.passes.invariant.leads group es b in
    passes_done group es _ _ l (c.in_ok-pass.ensures.brought group) (let was = c.made_count-before.ensures.value in let is = c.made_count.ensures.value in let same = c.if-made_count-before.true in omega arith)

pub passes-preserved : goal.passes-preserved
passes-preserved g c = record {
  leads = λ group es b.
      let l = c.passes.invariant.leads group es b in
      passes_more group es _ _ l (c.in_ok-pass.ensures.brought group) (let was = c.made_count-before.ensures.value in let is = c.made_count.ensures.value in let grown = c.in_ok-pass.ensures.count in let other = c.if-made_count-before.false in omega arith);
  count = (let was = c.passes.invariant.count in let is = c.in_ok-pass.ensures.count in omega arith);
}
