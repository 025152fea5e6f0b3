use Rattle.pay_hmac.specs.Mac.{length-mac}
use Rattle.pay_hmac.proofs.laws.tag_length.Goals as goal

pub returns : goal.returns
returns c = length-mac
