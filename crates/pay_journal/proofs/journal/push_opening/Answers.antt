use Rattle.std.proofs.Common.{◌∙◌, append_assoc}
use Rattle.std.proofs.lemmas.Result.{on_ok_weaker}
use Rattle.pay_journal.specs.Journal.{opening_words}
use Rattle.pay_journal.proofs.journal.push_opening.Goals as goal

pub returns : goal.returns
unfolding opening_words
returns c =
    on_ok_weaker c.push_word-4.result (λ h. h
    ∙ rw (c.in_ok-push_openings.ensures, c.in_ok-push_word-3.ensures, c.in_ok-push_word-2.ensures, c.in_ok-push_word.ensures)
    (simp append_assoc)) c.push_word-4.ensures
