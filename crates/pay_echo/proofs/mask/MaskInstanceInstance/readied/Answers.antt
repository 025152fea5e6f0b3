use Rattle.std.proofs.Common.{ap, ◌∙◌}
use Rattle.pay_echo.specs.Meaning.{Meaning}
use Rattle.pay_echo.specs.declared.instance.VoteKind.TheVariants as kind
use Rattle.pay_echo.proofs.MaskLemmas.{voted-value}
use Rattle.pay_echo.proofs.mask.MaskInstanceInstance.readied.Goals as goal

pub returns : goal.returns
returns c =
    voted-value c.self.inside.group.members c.self.inside.candidates.items c.deref.result.now kind.Ready c.self.inside.group.own _ c.self.invariant.are.own c.deref.ensures.value c.vote_at.ensures
    ∙ ap (λ (m : Meaning). m.readied) c.self.view_is
