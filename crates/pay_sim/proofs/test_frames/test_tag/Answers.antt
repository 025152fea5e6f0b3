use Rattle.std.proofs.Common.{◌++◌, ◌∙◌}
use Rattle.pay_hmac.specs.Mac.{mac}
use Rattle.pay_link.specs.Sealing.{tagged_bytes}
use Rattle.pay_sim.specs.TestFrames.{test_tag}
use Rattle.pay_sim.proofs.test_frames.test_tag.Goals as goal

pub returns : goal.returns
unfolding test_tag tagged_bytes
returns g c = c.tag.ensures ∙ (λ i. mac (c.pair_key.ensures i) (c.head_into.ensures.spelled i ++ c.value.ensures.value i))
