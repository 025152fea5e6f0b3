-- The beginning of each record block of a log, made from the log's key.
use Rattle.std.specs.Prelude.{ℕ, List, ◌++◌, take, codes}
use Rattle.std.specs.Int.{w64, to_be_bytes}
use Rattle.pay_hmac.specs.Mac.{mac}

-- eight bytes that nobody makes without the key
abbrev pub secret_mark : List ℕ → List ℕ
secret_mark key = take 8 (mac key (codes "payd log mark"))

-- a record block's place in eight bytes: how many bytes of blocks stand before it
abbrev pub place_bytes : ℕ → List ℕ
place_bytes place = to_be_bytes w64 place

-- the beginning of the record block at this place
abbrev pub front_of : List ℕ → ℕ → List ℕ
front_of key place = secret_mark key ++ place_bytes place
