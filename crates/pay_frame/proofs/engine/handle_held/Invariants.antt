use Rattle.std.proofs.Common.{◌≡◌, ◌+◌, ◌≤◌, ℕ, List, [], Option, length}
use Rattle.pay_frame.specs.Handling.{InProgress, Start}
use Rattle.pay_frame.proofs.Handlings.{stage_at}
use Rattle.pay_frame.proofs.engine.handle_held.Given as goal

abbrev pub invariant-frames : goal.invariant-frames
invariant-frames g l = record {
  handles : (start : Start g.row.S.Denot) (left : Option (List ℕ)) (reads : ℕ)
      → InProgress (g.H.FrameHandler.handling l.handler) start (stage_at l.fn.state left (g.Out.Output.contents l.fn.writer)) l.fn.held.bytes [] reads
      → InProgress (g.H.FrameHandler.handling l.handler) start (stage_at l.state left (g.Out.Output.contents l.writer)) l.held.bytes l.out.items reads;
  room : (n : ℕ) → n ≤ length l.held.bytes + 1 → g.H.FrameHandler.has_room l.handler l.state n;
  writes : g.Out.Output.failure_count l.writer ≡ g.Out.Output.failure_count l.fn.writer;
  same_room : l.held.room ≡ l.fn.held.room;
}

abbrev pub decreases-frames : goal.decreases-frames
decreases-frames g l = length l.held.bytes
