use Rattle.std.proofs.Common.{◌≡◌, ◌++◌, ◌∙◌, refl}
use Rattle.pay_journal.specs.Journal.{opening_posting}
use Rattle.pay_journal.proofs.Accounts.{one_more}
use Rattle.pay_journal.proofs.journal.push_openings.Goals as goal

pub loop-account-preserved : goal.loop-account-preserved
loop-account-preserved c =
    let account = c.loop-account.account in
    let pushed : c.push_posting.new.out.items ≡ c.loop-account.out.items ++ opening_posting c.args.export.now account =
    c.in_ok-push_posting.ensures ∙ rw (c.opening.ensures.value, c.genesis-genesis.ensures) refl in
    one_more _ (opening_posting c.args.export.now) account _ _ c.loop-account.invariant pushed
