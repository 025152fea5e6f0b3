use Rattle.pay_audit.specs.Findings.{account_finding_words}
use Rattle.pay_audit.proofs.Pieces.{number_more}
use Rattle.pay_audit.proofs.findings.push_book.Goals as goal

pub loop-account-preserved : goal.loop-account-preserved
loop-account-preserved c =
    number_more _ (account_finding_words c.args.named) c.loop-account.account _ _ c.loop-account.invariant c.in_ok-push_account.ensures
