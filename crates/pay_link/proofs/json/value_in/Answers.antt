use Rattle.std.proofs.Common.{true≢false, sym, ◌∙◌}
use Rattle.pay_link.proofs.JsonReading.{value_in-none, value_in-some}
use Rattle.pay_link.proofs.json.value_in.Goals as goal

pub returns-in-Ok : goal.returns-in-Ok
returns-in-Ok c = value_in-some _ _ c.in-Ok.ensures.ok.0 c.in-Ok.ensures.ok.1

pub returns-else-is_memory : goal.returns-else-is_memory
returns-else-is_memory c =
    value_in-none _ (c.in-Err.ensures.err (λ m. true≢false (sym (c.is_memory.ensures.1 m) ∙ c.if-is_memory.false)))
