use Rattle.std.proofs.Common.{rules, ◌≡◌, ◌≤◌, length, None, sym, ◌∙◌}
use Rattle.pay_audit.specs.Compared.{fork_by, fork_if}
use Rattle.pay_audit.proofs.Comparing.{nothing_left}
use Rattle.pay_audit.proofs.comparison.fork_by.Goals as goal

pub returns-in_err-difference : goal.returns-in_err-difference
unfolding fork_by
returns-in_err-difference c =
    let none : c.from_residual.result ≡ None = search rules in
    let short : length c.args.differences.now ≤ c.loop-owner.owner = c.in_err-difference.ensures.lookup.3 in
    none ∙ sym (c.loop-owner.invariant ∙ nothing_left (fork_if c.args.one c.args.other) c.args.lengths.now c.args.differences.now c.loop-owner.owner short)
