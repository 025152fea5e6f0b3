use Rattle.std.proofs.Common.{rules, ◌<◌, ◌≡◌, ap, length, None}
use Rattle.pay_frame.proofs.Ends.{cut_off, longer}
use Rattle.pay_frame.proofs.cutter.Cutter.end.Goals as goal

pub returns-else-is_empty : goal.returns-else-is_empty
returns-else-is_empty c =
    let held : c.self.inside.stream.bytes ≡ c.args.self.now.bytes = ap (λ h. h.bytes) c.self.view_is in
    let met : c.args.self.now.met ≡ None = search rules in
    let some : 0 < length c.args.self.now.bytes = longer c.args.self.now.bytes (search rules) in
    record { ends = cut_off c.args.self.now c.in_ok-read.field-0 met c.requires.drained (rw held at (rw c.bytes.ensures at c.in_ok-read.ensures.reading)) some }
