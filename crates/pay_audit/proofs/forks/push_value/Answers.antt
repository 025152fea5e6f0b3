use Rattle.std.proofs.Common.{◌∙◌, append_assoc}
use Rattle.std.proofs.lemmas.Result.{on_ok_weaker}
use Rattle.pay_audit.specs.Findings.{value_words}
use Rattle.pay_audit.proofs.forks.push_value.Goals as goal

pub returns : goal.returns
unfolding value_words
returns c =
    on_ok_weaker c.push_word-5.result (λ h. h
    ∙ rw (c.in_ok-push_names.ensures, c.in_ok-push_word-4.ensures, c.in_ok-push_number-3.ensures, c.count.ensures, c.in_ok-push_word-3.ensures, c.in_ok-push_entries.ensures, c.in_ok-push_number-2.ensures, c.from-2.ensures, c.in_ok-push_word-2.ensures, c.in_ok-push_number.ensures, c.from.ensures, c.in_ok-push_word.ensures)
    (simp append_assoc)) c.push_word-5.ensures
