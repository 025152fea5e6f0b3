use Rattle.pay_link.proofs.Said.{bad_key_law, keys_json_law, keys_shape_law, said_keys_law}
use Rattle.pay_link.proofs.laws.keys_file_faults.Goals as goal

pub returns : goal.returns
returns c = record { json = keys_json_law; shape = keys_shape_law; key = bad_key_law; value = said_keys_law }
