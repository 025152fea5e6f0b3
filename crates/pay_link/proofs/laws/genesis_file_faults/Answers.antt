use Rattle.pay_link.proofs.Said.{genesis_json_law, genesis_shape_law}
use Rattle.pay_link.proofs.laws.genesis_file_faults.Goals as goal

pub returns : goal.returns
returns c = record { json = genesis_json_law; shape = genesis_shape_law }
