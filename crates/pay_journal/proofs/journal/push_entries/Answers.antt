use Rattle.std.proofs.Common.{◌∙◌, refl}
use Rattle.std.proofs.lemmas.Result.{on_ok_weaker}
use Rattle.pay_journal.specs.Journal.{account_transactions}
use Rattle.pay_journal.proofs.journal.push_entries.Goals as goal

pub returns : goal.returns
unfolding account_transactions
returns g c =
    on_ok_weaker c.push_lines.result (λ h. h ∙ rw (c.as_slice.ensures.value, c.in_ok-lines.ensures) refl) c.push_lines.ensures
