use Rattle.std.proofs.Common.{◌++◌, ◌∙◌, length}
use Rattle.std.specs.Int.{w32, to_be_bytes}
use Rattle.pay_log.specs.Chunks.{sum_of}
use Rattle.pay_log.proofs.Chunks.{from_mark}
use Rattle.pay_log.proofs.chunk.LogKey.made_for.Goals as goal

pub returns : goal.returns
returns c p made_for short within begins =
    let key = c.args.self.now in
    c.place_in.ensures made_for (to_be_bytes w32 (length p) ++ (p ++ (sum_of key made_for p ++ begins.rest))) within
    (begins.is ∙ from_mark key made_for p begins.rest)
