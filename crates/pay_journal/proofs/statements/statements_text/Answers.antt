use Rattle.std.proofs.Common.{[], arith}
use Rattle.std.proofs.lemmas.Grind.{common_steps}
use Rattle.pay_journal.specs.Statements.{statement_in}
use Rattle.pay_journal.proofs.Accounts.{one_more}
use Rattle.pay_journal.proofs.statements.statements_text.Goals as goal

pub loop-account-preserved : goal.loop-account-preserved
loop-account-preserved c =
    one_more [] (statement_in c.args.export.now) c.loop-account.account c.loop-account.texts.items c.push_account.new.out.items
    c.loop-account.invariant c.in_ok-push_account.ensures

pub loop-account-init : goal.loop-account-init
loop-account-init c = grind (arith, common_steps)
