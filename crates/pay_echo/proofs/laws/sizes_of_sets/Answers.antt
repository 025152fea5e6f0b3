use Rattle.pay_echo.proofs.Sets.{size_is_at_most, size_of_listed, size_of_others, part_is_smaller}
use Rattle.pay_echo.proofs.laws.sizes_of_sets.Goals as goal

pub returns : goal.returns
returns c = record { most = size_is_at_most; listed = size_of_listed; others = size_of_others; part = part_is_smaller }
