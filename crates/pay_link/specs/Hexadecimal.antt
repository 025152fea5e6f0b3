-- Keys as text: two hexadecimal digits of either case a byte.
use Rattle.std.specs.Prelude.{ℕ, List, Option}
use Rattle.std.specs.Result.{result_ok}
use Rattle.hex.specs.Hex.{decode_sized}

-- the 32 bytes that 64 digits encode
abbrev pub key_in : List ℕ → Option (List ℕ)
key_in text = result_ok (decode_sized text 32)
