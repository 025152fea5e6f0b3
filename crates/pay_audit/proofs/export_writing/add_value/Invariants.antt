use Rattle.std.proofs.Common.{◌∷◌, take}
use Rattle.hex.specs.Hex.{encode_lower}
use Rattle.pay_audit.specs.Gathering.{Adds, state}
use Rattle.pay_audit.proofs.export_writing.add_value.Given as goal

-- the digits so far, after the quote
abbrev pub invariant-loop-byte : goal.invariant-loop-byte
invariant-loop-byte g l =
    let contents = g.W.Output.contents in
    let failures = g.W.Output.failure_count in
    Adds (state contents failures l.fn.text l.fn.writer) (state contents failures l.text l.writer)
    (34 ∷ encode_lower (take l.byte-index l.value))
