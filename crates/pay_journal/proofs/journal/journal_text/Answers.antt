use Rattle.std.proofs.Common.{◌≡◌, ◌++◌, ◌∙◌, refl}
use Rattle.jiff.specs.Words.{date_text}
use Rattle.pay_journal.specs.Journal.{account_transactions}
use Rattle.pay_journal.proofs.Accounts.{one_more}
use Rattle.pay_journal.proofs.journal.journal_text.Goals as goal

pub loop-account-preserved : goal.loop-account-preserved
loop-account-preserved c =
    let account = c.loop-account.account in
    let pushed : c.push_entries.new.out.items ≡ c.loop-account.text.items ++ account_transactions (date_text c.args.date) c.args.export.now account =
    c.in_ok-push_entries.ensures ∙ rw (c.as_str-day.ensures.value, c.in_ok-date.ensures.ok) refl in
    one_more _ (account_transactions (date_text c.args.date) c.args.export.now) account _ _ c.loop-account.invariant pushed
