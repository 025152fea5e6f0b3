use Rattle.std.proofs.Common.{ap, ◌∙◌, subst}
use Rattle.pay_frame.specs.Frame.{BodyFields}
use Rattle.pay_frame.specs.Stream.{IsBytes}
use Rattle.pay_member.proofs.event.taken_is_kept.Goals as goal

pub returns : goal.returns
returns c = (
  c.body.ensures.limits,
  subst IsBytes (c.value.ensures.value ∙ ap (λ (b : BodyFields). b.value) c.body.ensures.value) c.slice_is_bytes.ensures,
)
