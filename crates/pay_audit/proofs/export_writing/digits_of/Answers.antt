use Rattle.std.proofs.Common.{◌∷◌, [], ap₂, slice_index}
use Rattle.hex.specs.Hex.{encode_with, lower_digits}
use Rattle.pay_audit.proofs.export_writing.digits_of.Goals as goal

pub returns : goal.returns
unfolding encode_with
returns c = ap₂ (λ a b. slice_index lower_digits a ∷ slice_index lower_digits b ∷ []) c.from.ensures c.from-2.ensures
