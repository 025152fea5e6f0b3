use Rattle.std.proofs.Common.{◌∙◌, append_assoc}
use Rattle.std.proofs.lemmas.Result.{on_ok_weaker}
use Rattle.pay_journal.specs.Journal.{posting_words}
use Rattle.pay_journal.proofs.journal.push_posting.Goals as goal

pub returns : goal.returns
unfolding posting_words
returns c =
    on_ok_weaker c.push_word-4.result (λ h. h
    ∙ rw (c.in_ok-push_number-2.ensures, c.in_ok-push_word-3.ensures, c.in_ok-push_word-2.ensures, c.in_ok-push_number.ensures, c.from.ensures, c.in_ok-push_word.ensures)
    (simp append_assoc)) c.push_word-4.ensures
