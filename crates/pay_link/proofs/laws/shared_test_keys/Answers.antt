use Rattle.pay_link.proofs.TestKeysLemmas.{shared_test_keys_law}
use Rattle.pay_link.proofs.laws.shared_test_keys.Goals as goal

pub returns : goal.returns
returns c = shared_test_keys_law
