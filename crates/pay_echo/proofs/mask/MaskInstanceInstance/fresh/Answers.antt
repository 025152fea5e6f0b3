use Rattle.pay_echo.proofs.MaskLemmas.{none_tallied}
use Rattle.pay_echo.proofs.mask.MaskInstanceInstance.fresh.Goals as goal

pub invariant_of-result : goal.invariant_of-result
invariant_of-result c = none_tallied _ _ c.in_ok-with_capacity.ensures.items c.requires.few c.requires.member
