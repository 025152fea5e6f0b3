use Rattle.std.proofs.Common.{◌≡◌, ◌∙◌, append_assoc, arith}
use Rattle.std.proofs.lemmas.Result.{on_ok_weaker}
use Rattle.pay_journal.specs.Journal.{declared_words, names_words}
use Rattle.pay_journal.proofs.Accounts.{one_more}
use Rattle.pay_journal.proofs.journal.push_names.Goals as goal

pub loop-account-preserved : goal.loop-account-preserved
loop-account-preserved c = one_more _ declared_words c.loop-account.account _ _ c.loop-account.invariant c.in_ok-push_declared.ensures

pub returns : goal.returns
unfolding names_words
returns c =
    let all : c.loop-account.account ≡ c.args.members = omega arith in
    on_ok_weaker c.push_word.result (λ h. h ∙ rw (c.loop-account.invariant, all) (simp append_assoc)) c.push_word.ensures
