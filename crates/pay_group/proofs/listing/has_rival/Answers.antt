use Rattle.std.proofs.Common.{◌≡◌, true, false, not, sym, ap, ◌∙◌, arith}
use Rattle.std.specs.Str.{bytes_eq}
use Rattle.std.proofs.lemmas.Bool.{ltb-true}
use Rattle.std.proofs.lemmas.Slice.Eq.{bytes_eq-Decides}
use Rattle.pay_group.proofs.listing.has_rival.Goals as goal

pub returns-then-ne-clause-yes : goal.returns-then-ne-clause-yes
returns-then-ne-clause-yes g c many = (
  c.at-other.result.now,
  (λ same. let e : bytes_eq c.args.value.now c.at-other.result.now ≡ true = (bytes_eq-Decides c.args.value.now c.at-other.result.now).1 same in
      let n : true ≡ false = sym c.if-ne.true ∙ c.ne.ensures ∙ ap not e in absurd cc),
  omega (arith, ltb-true c.from.result c.support.result many, c.from.ensures, c.support.ensures),
)
