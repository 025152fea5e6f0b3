use Rattle.std.proofs.Common.{rules}
use Rattle.pay_peers.specs.Growing.{SeatGrows}
use Rattle.pay_peers.proofs.Growings.{grows_on, looked_grows}
use Rattle.pay_peers.proofs.readers.Workers.keep_reading.Goals.{in-Ok-None+in-Failed, in-Ok-None+in-Streams, in-Err}
use Rattle.pay_peers.proofs.readers.Workers.keep_reading.Goals as goal

pub returns-in-Ok-Some : goal.returns-in-Ok-Some
returns-in-Ok-Some g c = grows_on _ _ _ _ c.loop.invariant (looked_grows _ _ _ _ c.last_word.new.asking c.last_word.ensures.looked)

pub returns-in-Stop : goal.returns-in-Stop
returns-in-Stop g c = grows_on _ _ _ _ c.loop.invariant (looked_grows _ _ _ _ c.last_word.new.asking c.last_word.ensures.looked)

pub loop-preserved : goal.loop-preserved
loop-preserved g c =
    let grows : SeatGrows c.args.peer c.args.asking.now.seat c.last_word.new.asking.seat = grows_on _ _ _ _ c.loop.invariant (looked_grows _ _ _ _ c.last_word.new.asking c.last_word.ensures.looked) in
    elim c.match-last_word.branch [
      | in-Ok-None+in-Failed w ↦ search (rules, grows)
      | in-Ok-None+in-Streams w ↦ search (rules, grows, grows_on)
      | in-Err w ↦ search (rules, grows)
    ]
