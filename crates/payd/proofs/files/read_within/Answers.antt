use Rattle.payd.proofs.Reading.{within}
use Rattle.payd.proofs.files.read_within.Goals as goal

pub returns : goal.returns
returns g c =
    within 1073741825 (g.R.Read.remaining c.args.source) c.read_to_end.new.buf.items
    (rw (c.take.ensures.limit, c.take.ensures.inner, c.new-bytes.ensures.items) at c.in_ok-read_to_end.ensures.bytes)
