use Rattle.pay_audit.specs.Findings.{fork_words}
use Rattle.pay_audit.proofs.Pieces.{number_more}
use Rattle.pay_audit.proofs.forks.push_owner.Goals as goal

pub loop-seq-preserved : goal.loop-seq-preserved
loop-seq-preserved c =
    number_more _ (fork_words c.args.members c.args.group.now c.args.owner) c.loop-seq.seq _ _ c.loop-seq.invariant c.in_ok-push_fork.ensures
