use Rattle.std.proofs.Common.{rules, ◌≡◌, ◌∙◌, ap, sym, None}
use Rattle.pay_frame.specs.Cutting.{Held, IsFront}
use Rattle.pay_frame.proofs.Fronts.{passes}
use Rattle.pay_frame.proofs.cutter.Cutter.pass_frames.Goals as goal

pub returns-in-Ok-clause-passes : goal.returns-in-Ok-clause-passes
returns-in-Ok-clause-passes c =
    let inside = c.self.inside in
    let old : Held = c.args.self.now in
    let size = c.in-Ok.size in
    let bytes : inside.stream.bytes ≡ old.bytes = ap (λ (h : Held). h.bytes) c.self.view_is in
    let none : inside.met ≡ None = search rules in
    let front : IsFront old.bytes c.args.most size c.in-Ok.count = rw bytes at (rw c.bytes.ensures at c.in-Ok.ensures.front) in
    passes old _ c.args.most size c.in-Ok.count front (sym (ap (λ (h : Held). h.met) c.self.view_is) ∙ none) none
    (rw bytes at c.consume.ensures.consumed) (rw bytes at c.consume.ensures.left)
