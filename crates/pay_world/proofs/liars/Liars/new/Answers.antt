use Rattle.std.proofs.Common.{◌≡◌, ◌≤◌, ℕ, List, length, arith, rules, sym, ◌∙◌, subst}
use Rattle.pay_world.specs.Liars.{AreLiars}
use Rattle.pay_world.proofs.LiarLemmas.{passed}
use Rattle.pay_world.proofs.liars.Liars.new.Goals as goal

pub invariant_of-result : goal.invariant_of-result
invariant_of-result c =
    let few : length c.args.liars.now ≤ c.faults.result = omega arith in
    let At : List ℕ → Type 0 = λ liars. AreLiars (record { members = c.members-members.result; faults = c.faults-2.result; liars = liars }) in
    let same : c.faults-2.result ≡ c.faults.result = c.faults-2.ensures.value ∙ sym c.faults.ensures.value in
    subst At (search rules)
    (passed (record { members = c.members-members.result; faults = c.faults-2.result; liars = c.args.liars.now })
    (search rules) (search rules) (omega arith))
