use Rattle.std.proofs.Common.{◌∙◌, append_assoc}
use Rattle.std.proofs.lemmas.Result.{on_ok_weaker}
use Rattle.pay_group.specs.Text.{waits_words}
use Rattle.pay_group.proofs.lines.push_waits.Goals as goal

pub returns : goal.returns
unfolding waits_words
returns c =
    on_ok_weaker c.push_word-4.result (λ h. h
    ∙ rw (c.in_ok-push_lack.ensures, c.in_ok-push_entry.ensures, c.in_ok-push_number-3.ensures, c.from-2.ensures, c.in_ok-push_word-3.ensures, c.in_ok-push_number-2.ensures, c.in_ok-push_word-2.ensures, c.in_ok-push_number.ensures, c.from.ensures, c.in_ok-push_word.ensures)
    (simp append_assoc)) c.push_word-4.ensures
