use Rattle.std.proofs.Common.{◌≡◌, Err, option_map, sym, ap, ◌∙◌, arith, rules}
use Rattle.pay_world.specs.Passing.{frame_of}
use Rattle.pay_sim.proofs.Bringing.{draw_done, draw_more, draw_broken}
use Rattle.pay_sim.proofs.game.Game.draw.Goals as goal

pub returns-in_default-clause-brought : goal.returns-in_default-clause-brought
returns-in_default-clause-brought g c = λ group es b.
    let l = c.frames.invariant.leads group es b in
    draw_done group c.args.from c.args.to es _ l
    (sym (c.next_untaken.ensures.frame group l.0 l.1) ∙ ap (option_map (frame_of c.frames.self.world c.args.from c.args.to)) c.in_default.is)

pub frames-preserved : goal.frames-preserved
frames-preserved g c = record {
  leads = λ group es b.
      let l = c.frames.invariant.leads group es b in
      draw_more group c.args.from c.args.to es _ _ (frame_of c.frames.self.world c.args.from c.args.to c.in-Some.number) c.in_ok-pass_on.field-0 l
      (sym (c.next_untaken.ensures.frame group l.0 l.1) ∙ ap (option_map (frame_of c.frames.self.world c.args.from c.args.to)) c.in-Some.is)
      (c.in_ok-pass_on.ensures.made group l.0 l.1);
  count = (let was = c.frames.invariant.count in let one = c.in_ok-pass_on.ensures.count in omega arith);
}

pub returns-in_err-pass_on-clause-brought : goal.returns-in_err-pass_on-clause-brought
returns-in_err-pass_on-clause-brought g c = λ group es b.
    let l = c.frames.invariant.leads group es b in
    let same : c.from_residual.result ≡ Err c.in_err-pass_on.field-0.0 = search rules in
    rw same (draw_broken group c.args.from c.args.to es c.frames.self c.pass_on.new.self (frame_of c.frames.self.world c.args.from c.args.to c.in-Some.number) c.in_err-pass_on.field-0.0 l
    (sym (c.next_untaken.ensures.frame group l.0 l.1) ∙ ap (option_map (frame_of c.frames.self.world c.args.from c.args.to)) c.in-Some.is)
    (c.in_err-pass_on.ensures.made group l.0 l.1))
