use Rattle.pay_audit.specs.Findings.{owner_words}
use Rattle.pay_audit.proofs.Pieces.{number_more}
use Rattle.pay_audit.proofs.forks.push_forks.Goals as goal

pub loop-owner-preserved : goal.loop-owner-preserved
loop-owner-preserved c =
    number_more _ (owner_words c.args.members c.args.group.now) c.loop-owner.owner _ _ c.loop-owner.invariant c.in_ok-push_owner.ensures
