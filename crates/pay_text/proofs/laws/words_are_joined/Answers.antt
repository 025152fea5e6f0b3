use Rattle.pay_text.proofs.Splitting.{words_joined}
use Rattle.pay_text.proofs.laws.words_are_joined.Goals as goal

pub returns : goal.returns
returns c = record { law = words_joined }
