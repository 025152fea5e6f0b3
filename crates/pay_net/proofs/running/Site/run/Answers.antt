use Rattle.std.proofs.Common.{◌≡◌, ap, sym, rules}
use Rattle.pay_net.specs.Running.{node_of}
use Rattle.pay_net.proofs.Endings.{ended_so}
use Rattle.pay_net.proofs.running.Site.run.Goals as goal

pub returns-clause-ended : goal.returns-clause-ended
returns-clause-ended g c =
    let same : c.in-Ok.node ≡ node_of c.args.start = search rules in
    ended_so _ _ _ _ _ _ _ _ _ _ _ same
    (ap g.Out.Output.contents c.new-gated.ensures.inner) (ap g.Out.Output.contents (sym c.into_inner-writer.ensures))
    (c.finish.ensures.ended _ _ _ c.run_threads-ran.ensures.ran)
