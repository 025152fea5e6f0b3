use Rattle.std.proofs.Common.{◌≡◌, ℕ, List, ◌++◌, drop}
use Rattle.pay_text.specs.Cutting.{lines_after}
use Rattle.pay_text.specs.Outbox.{PutsUntil}
use Rattle.pay_text.proofs.Waiting.{waiting}
use Rattle.pay_text.proofs.engine.answer_lines.Given as goal

-- the lines of the bytes so far are answered
abbrev pub invariant-loop-byte : goal.invariant-loop-byte
invariant-loop-byte g l = record {
  went : (more : List ℕ) → PutsUntil g.A.Answerer.says (lines_after l.fn.cutter.bound l.fn.cutter.line (l.piece ++ more)) (lines_after l.fn.cutter.bound l.cutter.line (drop l.byte-index l.piece ++ more)) (waiting l.fn.answerer (g.W.Output.contents l.fn.writer) l.fn.outbox) (waiting l.answerer (g.W.Output.contents l.writer) l.outbox);
  bound : l.cutter.bound ≡ l.fn.cutter.bound;
  written : g.W.Output.failure_count l.writer ≡ g.W.Output.failure_count l.fn.writer;
}
