use Rattle.pay_audit.proofs.Comparing.{forks_are}
use Rattle.pay_audit.proofs.comparison.Comparison.fork.Goals as goal

pub returns : goal.returns
returns c =
    let s = c.args.self.now in
    λ exports h. (let same = forks_are exports s.longest.items s.lengths.items s.differences.items h in cc (same, c.fork_among.ensures, c.as_slice.ensures.value, c.as_slice-2.ensures.value))
