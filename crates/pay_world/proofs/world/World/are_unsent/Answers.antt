use Rattle.std.proofs.Common.{Ok, Err, ap, ◌∙◌}
use Rattle.pay_frame.specs.Lent.{fields_of}
use Rattle.pay_world.specs.Answer.{is_unsent}
use Rattle.pay_world.proofs.Forging.{ok_same, err_ok}
use Rattle.pay_world.proofs.world.World.are_unsent.Goals as goal

pub returns-in-Ok : goal.returns-in-Ok
returns-in-Ok g c = λ f one.
    let frame = fields_of c.in-Ok.frame in
    c.is_unsent.ensures ∙ ap (is_unsent c.args.self.now) (ok_same frame f (c.one_answer.ensures.unique c.args.bytes.now (Ok frame) (Ok f) c.in-Ok.ensures.one one))

pub returns-in-Err : goal.returns-in-Err
returns-in-Err g c = λ f one. absurd (err_ok c.in-Err.field-0 f (c.one_answer.ensures.unique c.args.bytes.now (Err c.in-Err.field-0) (Ok f) c.in-Err.ensures.one one))
