use Rattle.pay_group.specs.Text.{account_words}
use Rattle.pay_group.proofs.Accounts.{one_more}
use Rattle.pay_group.proofs.lines.push_accounts.Goals as goal

pub loop-account-preserved : goal.loop-account-preserved
loop-account-preserved c =
    one_more _ (account_words c.args.book.now) c.loop-account.account _ _ c.loop-account.invariant c.in_ok-push_account.ensures
