use Rattle.std.proofs.Common.{◌≡◌, List, ℕ, take, sym, ap, ◌∙◌, arith}
use Rattle.std.proofs.lemmas.List.{take-take}
use Rattle.pay_log.proofs.reading.judge_header.Goals as goal

pub returns-in-Ok-clause-same : goal.returns-in-Ok-clause-same
returns-in-Ok-clause-same g c known =
    let file : List ℕ = g.D.Device.seen c.args.device.now in
    let front : c.deref.result.now ≡ take 75 file = c.deref.ensures.value ∙ c.in_ok-front.ensures.bytes known in
    sym (take-take 75 75 file (omega arith)) ∙ ap (take 75) (sym front) ∙ c.in-Ok.ensures.same
