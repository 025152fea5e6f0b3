use Rattle.pay_link.proofs.Owned.{kept_law, one_frame_law, opens_again_law}
use Rattle.pay_link.proofs.laws.owned_opens_again.Goals as goal

pub returns : goal.returns
returns c = record { kept = kept_law; opens_again = opens_again_law; one_frame = one_frame_law }
