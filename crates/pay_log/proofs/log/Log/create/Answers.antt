use Rattle.std.proofs.Common.{sym, ◌∙◌, append-nil}
use Rattle.std.proofs.lemmas.List.Elements.{All-nil}
use Rattle.pay_log.specs.Chunks.{IsShort}
use Rattle.pay_log.specs.Logs.{log_bytes}
use Rattle.pay_log.proofs.log.Log.create.Goals as goal

pub returns-clause-created : goal.returns-clause-created
unfolding log_bytes
returns-clause-created g c known empty =
    let begun = c.in_ok-log.ensures.begun known empty in
    record {
      works = c.in_ok-log.ensures.works;
      known = c.sync.ensures.known begun.known;
      short = All-nil IsShort;
      file = c.sync.ensures.seen begun.known ∙ begun.is ∙ sym (append-nil _);
      place = c.in_ok-log.ensures.place;
      durable = λ f left. c.in_ok-sync.ensures.durable begun.known f left ∙ sym (c.sync.ensures.seen begun.known);
    }
