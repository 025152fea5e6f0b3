use Rattle.pay_hmac.proofs.Pads.{mac-long_key}
use Rattle.pay_hmac.proofs.laws.long_key.Goals as goal

pub returns : goal.returns
returns c = mac-long_key
