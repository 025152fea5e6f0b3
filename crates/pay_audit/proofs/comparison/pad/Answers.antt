use Rattle.std.proofs.Common.{List, ℕ, length, ap, ◌∙◌, arith}
use Rattle.pay_audit.specs.Export.{list_in}
use Rattle.pay_audit.proofs.comparison.pad.Goals as goal

pub returns-in_err-push-clause-same : goal.returns-in_err-push-clause-same
returns-in_err-push-clause-same c =
    λ a. ap (λ (lists : List (List (List ℕ))). list_in lists a) c.in_err-push.ensures.items ∙ c.loop-account.invariant.same a

pub returns-in_err-push-clause-more : goal.returns-in_err-push-clause-more
returns-in_err-push-clause-more c = omega (arith, c.loop-account.invariant.more, ap length c.in_err-push.ensures.items)
