use Rattle.std.proofs.Common.{◌≡◌, rules, subst, sym}
use Rattle.pay_node.specs.Comparing.{IsComparingOf, standing_of}
use Rattle.pay_node.specs.declared.comparing.Standing.TheVariants.{Free}
use Rattle.pay_node.proofs.Claims.{claimed_of}
use Rattle.pay_node.proofs.comparing.Compared.note.Goals as goal

pub invariant_of-self : goal.invariant_of-self
invariant_of-self g c =
    let its = subst (λ x. IsComparingOf g.S.Beginning.beginning x) (sym c.note.ensures) (claimed_of _ _ _ _ _ c.self.invariant.0) in
    let free : Free ≡ standing_of c.note.new.self = search rules in
    (its, λ _. record { comparing = c.note.new.self; its = its; is = free })
