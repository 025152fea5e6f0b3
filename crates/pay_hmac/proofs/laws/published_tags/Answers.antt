use Rattle.pay_hmac.proofs.Vectors.{mac_of_case_2, mac_of_case_6}
use Rattle.pay_hmac.proofs.laws.published_tags.Goals as goal

pub returns : goal.returns
returns c = record { short_key = mac_of_case_2; long_key = mac_of_case_6 }
