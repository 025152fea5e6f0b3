use Rattle.std.proofs.Common.{ap, subst, ◌∙◌}
use Rattle.pay_peers.specs.declared.feeding.PeerReader.{PeerReader}
use Rattle.pay_peers.specs.Growing.{SeatGrows}
use Rattle.pay_peers.proofs.Growings.{run_grows, same_grows}
use Rattle.pay_peers.proofs.readers.Workers.feed.Goals.{then-eq+then-begin, else-eq, else-eq-via-then-eq+else-begin, else-eq-via-else-eq}
use Rattle.pay_peers.proofs.readers.Workers.feed.Goals as goal

pub returns-clause-seat : goal.returns-clause-seat
returns-clause-seat g c =
    let seat_of : PeerReader → _ = λ a. a.seat in
    elim c.if-eq.branch [
      | then-eq+then-begin w ↦ rw w.asking-is
          (subst (λ seat. SeatGrows c.args.peer seat w.read_ahead-ended.new.asking.seat) w.begin.ensures.seat
          (run_grows c.judgement_opens.ensures _ _ _ _ _ _ _ _ w.read_ahead-ended.ensures.fed))
      | else-eq w ↦ elim w.else-eq.branch [
        | else-eq-via-then-eq+else-begin v ↦ same_grows _ _ _ (ap seat_of (w.asking-is ∙ v.asking-is) ∙ v.begin.ensures.seat)
        | else-eq-via-else-eq v ↦ same_grows _ _ _ (ap seat_of (w.asking-is ∙ v.asking-is))
      ]
    ]
